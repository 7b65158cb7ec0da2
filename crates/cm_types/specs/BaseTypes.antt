-- The types that are always there: one table of their properties and one of their attributes (CMIS 1.1, sections 2.1.3, 2.1.4 and 2.1.16).
use Rattle.std.specs.Prelude.{ℕ, Bool, true, false, ◌&&◌, List, [], ◌∷◌, ◌++◌, map, Some, None, codes}
use Rattle.cm_base.specs.declared.value.Value.TheVariants.{Unset}
use Rattle.cm_types.specs.declared.property.PropDef.{PropDef}
use Rattle.cm_types.specs.declared.property.PropertyKind.{PropertyKind}
use Rattle.cm_types.specs.declared.property.PropertyKind.TheVariants.{Boolean, Integer, Datetime, String, Id}
use Rattle.cm_types.specs.declared.property.Cardinality.{Cardinality}
use Rattle.cm_types.specs.declared.property.Cardinality.TheVariants.{Single, Multi}
use Rattle.cm_types.specs.declared.property.Updatability.{Updatability}
use Rattle.cm_types.specs.declared.property.Updatability.TheVariants.{ReadOnly, ReadWrite, OnCreate}
use Rattle.cm_types.specs.declared.definition.BaseType.{BaseType}
use Rattle.cm_types.specs.declared.definition.BaseType.TheVariants as bases
use Rattle.cm_types.specs.declared.definition.ContentAllowed.{ContentAllowed}
use Rattle.cm_types.specs.declared.definition.ContentAllowed.TheVariants.{NotAllowed, Allowed}
use Rattle.cm_types.specs.declared.definition.TypeDef.{TypeDef}
use Rattle.cm_types.specs.Changes.{base_id, is_single, sorted_props, sorted_types}

-- a property whose names are its id, without choices, default value and limits; one of several values has no order
abbrev pub prop : List ℕ → PropertyKind → Cardinality → Updatability → Bool → Bool → PropDef
prop id kind cardinality updatability required queryable = record {
  id = id;
  local_name = id;
  local_namespace = [];
  display_name = id;
  query_name = id;
  description = [];
  kind = kind;
  cardinality = cardinality;
  updatability = updatability;
  required = required;
  queryable = queryable;
  orderable = queryable && is_single cardinality;
  open_choice = true;
  choices = [];
  default = Unset;
  max_length = None;
  min_value = None;
  max_value = None;
}

-- the properties of all objects: kind, cardinality, updatability, required, queryable
abbrev pub common_props : List PropDef
common_props =
    prop (codes "cmis:name") String Single ReadWrite true true
    ∷ prop (codes "cmis:description") String Single ReadWrite false true
    ∷ prop (codes "cmis:objectId") Id Single ReadOnly false true
    ∷ prop (codes "cmis:baseTypeId") Id Single ReadOnly false true
    ∷ prop (codes "cmis:objectTypeId") Id Single OnCreate true true
    ∷ prop (codes "cmis:secondaryObjectTypeIds") Id Multi ReadWrite false true
    ∷ prop (codes "cmis:createdBy") String Single ReadOnly false true
    ∷ prop (codes "cmis:creationDate") Datetime Single ReadOnly false true
    ∷ prop (codes "cmis:lastModifiedBy") String Single ReadOnly false true
    ∷ prop (codes "cmis:lastModificationDate") Datetime Single ReadOnly false true
    ∷ prop (codes "cmis:changeToken") String Single ReadOnly false true
    ∷ []

-- of documents
abbrev pub version_props : List PropDef
version_props =
    prop (codes "cmis:isImmutable") Boolean Single ReadOnly false true
    ∷ prop (codes "cmis:isLatestVersion") Boolean Single ReadOnly false true
    ∷ prop (codes "cmis:isMajorVersion") Boolean Single ReadOnly false true
    ∷ prop (codes "cmis:isLatestMajorVersion") Boolean Single ReadOnly false true
    ∷ prop (codes "cmis:isPrivateWorkingCopy") Boolean Single ReadOnly false true
    ∷ prop (codes "cmis:versionLabel") String Single ReadOnly false true
    ∷ prop (codes "cmis:versionSeriesId") Id Single ReadOnly false true
    ∷ prop (codes "cmis:isVersionSeriesCheckedOut") Boolean Single ReadOnly false true
    ∷ prop (codes "cmis:versionSeriesCheckedOutBy") String Single ReadOnly false true
    ∷ prop (codes "cmis:versionSeriesCheckedOutId") Id Single ReadOnly false true
    ∷ prop (codes "cmis:checkinComment") String Single ReadOnly false true
    ∷ []

-- of documents too
abbrev pub content_props : List PropDef
content_props =
    prop (codes "cmis:contentStreamLength") Integer Single ReadOnly false true
    ∷ prop (codes "cmis:contentStreamMimeType") String Single ReadOnly false true
    ∷ prop (codes "cmis:contentStreamFileName") String Single ReadOnly false true
    ∷ prop (codes "cmis:contentStreamId") Id Single ReadOnly false true
    ∷ []

-- of folders
abbrev pub folder_props : List PropDef
folder_props =
    prop (codes "cmis:parentId") Id Single ReadOnly false true
    ∷ prop (codes "cmis:path") String Single ReadOnly false false
    ∷ prop (codes "cmis:allowedChildObjectTypeIds") Id Multi OnCreate false false
    ∷ []

-- of relationships
abbrev pub relationship_props : List PropDef
relationship_props =
    prop (codes "cmis:sourceId") Id Single OnCreate true true
    ∷ prop (codes "cmis:targetId") Id Single OnCreate true true
    ∷ []

-- of policies
abbrev pub policy_props : List PropDef
policy_props = prop (codes "cmis:policyText") String Single ReadWrite false true ∷ []

-- a base type: subtypes can be made of it, and it is neither changed nor removed
abbrev pub base_def : BaseType → Bool → Bool → Bool → Bool → ContentAllowed → List PropDef → TypeDef
base_def base creatable fileable usable versionable content properties = record {
  id = base_id base;
  local_name = base_id base;
  local_namespace = [];
  display_name = base_id base;
  query_name = base_id base;
  description = [];
  base = base;
  parent = None;
  creatable = creatable;
  fileable = fileable;
  queryable = usable;
  fulltext_indexed = false;
  included_in_supertype_query = true;
  controllable_policy = usable;
  controllable_acl = usable;
  mutability = record { create = true; update = false; delete = false };
  versionable = versionable;
  content_allowed = content;
  allowed_source_types = [];
  allowed_target_types = [];
  properties = sorted_props properties;
}

-- creatable, fileable, queryable and controllable, versionable, content, and the properties
abbrev pub base_row : BaseType → TypeDef
base_row bases.Document = base_def bases.Document true true true true Allowed (common_props ++ (version_props ++ content_props))
base_row bases.Folder = base_def bases.Folder true true true false NotAllowed (common_props ++ folder_props)
base_row bases.Relationship = base_def bases.Relationship true false true false NotAllowed (common_props ++ relationship_props)
base_row bases.Policy = base_def bases.Policy true false true false NotAllowed (common_props ++ policy_props)
base_row bases.Item = base_def bases.Item true true true false NotAllowed common_props
base_row bases.Secondary = base_def bases.Secondary false false false false NotAllowed []

-- ---- the secondary types of retention and holds (section 2.1.16)

abbrev pub retention_props : List PropDef
retention_props =
    prop (codes "cmis:rm_expirationDate") Datetime Single ReadWrite false true
    ∷ prop (codes "cmis:rm_startOfRetention") Datetime Single ReadWrite false true
    ∷ []

abbrev pub hold_props : List PropDef
hold_props = prop (codes "cmis:rm_holdIds") String Multi ReadWrite false true ∷ []

-- a type below cmis:secondary: queryable, and else like it
abbrev pub secondary_row : List ℕ → List PropDef → TypeDef
secondary_row id properties = record (base_row bases.Secondary) {
  id = id;
  local_name = id;
  display_name = id;
  query_name = id;
  parent = Some (codes "cmis:secondary");
  queryable = true;
  properties = sorted_props properties;
}

abbrev pub retention_type : TypeDef
retention_type = secondary_row (codes "cmis:rm_clientMgtRetention") retention_props

abbrev pub hold_type : TypeDef
hold_type = secondary_row (codes "cmis:rm_hold") hold_props

-- ---- all of them

-- in no order
abbrev pub first_types : List TypeDef
first_types =
    map base_row (bases.Document ∷ bases.Folder ∷ bases.Relationship ∷ bases.Policy ∷ bases.Item ∷ bases.Secondary ∷ [])
    ++ retention_type ∷ hold_type ∷ []

-- the list of types with which a repository begins
abbrev pub base_types : List TypeDef
base_types = sorted_types first_types
