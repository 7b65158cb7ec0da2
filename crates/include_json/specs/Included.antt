-- The JSON of objects that are shown with more than their properties (CMIS 1.1, section 5.2.11).
use Rattle.std.specs.Prelude.{ℕ, true, List, [], ◌∷◌, ◌++◌, codes, map, Option, Some, None}
use Rattle.serde_json.specs.Data.{Data, boolean, string}
use Rattle.json_text.specs.Build.{object_data, list_data}
use Rattle.action_parts.specs.declared.replies.ActionFlag.{ActionFlag}
use Rattle.call_json.specs.Actions.{flags_data}
use Rattle.call_parts.specs.declared.replies.AclReply.{AclReply}
use Rattle.call_parts.specs.declared.replies.ShownObject.{ShownObject}
use Rattle.rendition_parts.specs.declared.replies.ShownRendition.{ShownRendition}
use Rattle.call_json.specs.Renditions.{renditions_data}
use Rattle.include_parts.specs.declared.replies.IncludedObject.{IncludedObject}
use Rattle.include_parts.specs.declared.replies.ShownBeside.{ShownBeside}
use Rattle.object_json.specs.Access.{acl_data}
use Rattle.object_json.specs.Objects.{properties_of_object, shown_data}

-- ---- each field, where it is asked for

-- the access control list, which is exact
abbrev pub acl_fields : Option AclReply → List (List ℕ × Data)
acl_fields None = []
acl_fields (Some acl) = (codes "acl", acl_data acl) ∷ (codes "exactACL", boolean true) ∷ []

abbrev pub action_fields : Option (List ActionFlag) → List (List ℕ × Data)
action_fields None = []
action_fields (Some flags) = (codes "allowableActions", flags_data flags) ∷ []

abbrev pub ids_data : List (List ℕ) → Data
ids_data ids = object_data ((codes "ids", list_data (map string ids)) ∷ [])

abbrev pub policy_fields : Option (List (List ℕ)) → List (List ℕ × Data)
policy_fields None = []
policy_fields (Some ids) = (codes "policyIds", ids_data ids) ∷ []

abbrev pub relationship_fields : Option (List ShownObject) → List (List ℕ × Data)
relationship_fields None = []
relationship_fields (Some objects) = (codes "relationships", list_data (map shown_data objects)) ∷ []

abbrev pub rendition_fields : Option (List ShownRendition) → List (List ℕ × Data)
rendition_fields None = []
rendition_fields (Some renditions) = (codes "renditions", renditions_data renditions) ∷ []

-- ---- an object

-- what is shown beside the properties
abbrev pub fields_beside : ShownBeside → List (List ℕ × Data)
fields_beside b = acl_fields b.acl ++ action_fields b.actions ++ policy_fields b.policy_ids ++ relationship_fields b.relationships ++ rendition_fields b.renditions

-- its properties, and what is shown beside them
unfoldable pub included_data : IncludedObject → Data
included_data o = object_data (properties_of_object o.object.properties ∷ fields_beside o.beside)
