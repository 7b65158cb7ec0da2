-- The JSON of a type definition (CMIS 1.1, section 5.2.9).
use Rattle.std.specs.Prelude.{ℕ, ℤ, Bool, true, false, List, [], ◌∷◌, codes, map, fold, Option, Some, None}
use Rattle.std.specs.Borrow.{Bor}
use Rattle.serde_json.specs.Data.{Data, null, boolean, number, string, object, Members, no_members}
use Rattle.serde_json.specs.Find.{of_integer}
use Rattle.json_text.specs.Build.{list_data, object_data, with_field}
use Rattle.json_text.specs.Values.{scalar_data}
use Rattle.cm_types.specs.declared.property.Choice.{Choice}
use Rattle.cm_types.specs.declared.property.PropDef.{PropDef}
use Rattle.cm_types.specs.declared.property.PropertyKind.{PropertyKind}
use Rattle.cm_types.specs.declared.property.PropertyKind.TheVariants as kinds
use Rattle.cm_types.specs.declared.definition.BaseType.{BaseType}
use Rattle.cm_types.specs.declared.definition.BaseType.TheVariants as bases
use Rattle.cm_types.specs.declared.definition.TypeMutability.{TypeMutability}
use Rattle.cm_types.specs.declared.definition.TypeDef.{TypeDef}
use Rattle.cm_types.specs.Properties.{scalars_of}
use Rattle.cm_types.specs.Changes.{base_id}
use Rattle.type_keys.specs.Words.{content_word, kind_word, cardinality_word, updatability_word}

-- a name and what stands at it
abbrev pub Field : Type 0
Field = List ℕ × Data

-- the members with these fields too
abbrev pub with_fields : List Field → Members → Members
with_fields fs ms = fold with_field ms fs

abbrev pub text_field : Bor (List ℕ) × Bor (List ℕ) → Field
text_field f = (f.0.now, string f.1.now)

abbrev pub flag_field : Bor (List ℕ) × Bool → Field
flag_field f = (f.0.now, boolean f.1)

-- ---- property definitions

abbrev pub choice_data : Choice → Data
choice_data c = object_data
    ((codes "displayName", string c.display_name)
    ∷ (codes "value", scalar_data c.value)
    ∷ [])

-- null where there is no limit
abbrev pub limit_data : Option ℤ → Data
limit_data None = null
limit_data (Some n) = number (of_integer n)

abbrev pub prop_names : PropDef → List Field
prop_names d =
    (codes "id", string d.id)
    ∷ (codes "localName", string d.local_name)
    ∷ (codes "localNamespace", string d.local_namespace)
    ∷ (codes "displayName", string d.display_name)
    ∷ (codes "queryName", string d.query_name)
    ∷ (codes "description", string d.description)
    ∷ []

abbrev pub prop_words : PropDef → List Field
prop_words d =
    (codes "propertyType", string (kind_word d.kind))
    ∷ (codes "cardinality", string (cardinality_word d.cardinality))
    ∷ (codes "updatability", string (updatability_word d.updatability))
    ∷ []

-- no definition is one of an ancestor
abbrev pub prop_flags : PropDef → List Field
prop_flags d =
    (codes "inherited", boolean false)
    ∷ (codes "required", boolean d.required)
    ∷ (codes "queryable", boolean d.queryable)
    ∷ (codes "orderable", boolean d.orderable)
    ∷ (codes "openChoice", boolean d.open_choice)
    ∷ []

abbrev pub prop_values : PropDef → List Field
prop_values d =
    (codes "choice", list_data (map choice_data d.choices))
    ∷ (codes "defaultValue", list_data (map scalar_data (scalars_of d.default)))
    ∷ []

abbrev pub bound_fields : PropDef → List Field
bound_fields d = (codes "minValue", limit_data d.min_value) ∷ (codes "maxValue", limit_data d.max_value) ∷ []

-- the attributes of strings, of integers and of moments
abbrev pub limit_fields : PropertyKind → PropDef → List Field
limit_fields kinds.String d = (codes "maxLength", limit_data d.max_length) ∷ []
limit_fields kinds.Integer d = bound_fields d
limit_fields kinds.Datetime d = (codes "resolution", string (codes "time")) ∷ []
limit_fields _ d = []

unfoldable pub prop_data : PropDef → Data
prop_data d = object
    (with_fields (limit_fields d.kind d)
    (with_fields (prop_values d)
    (with_fields (prop_flags d)
    (with_fields (prop_words d)
    (with_fields (prop_names d) no_members)))))

abbrev pub prop_field : PropDef → Field
prop_field d = (d.id, prop_data d)

-- from ids to definitions
abbrev pub props_data : List PropDef → Data
props_data ds = object_data (map prop_field ds)

-- ---- types

unfoldable pub mutability_data : TypeMutability → Data
mutability_data m = object_data
    ((codes "create", boolean m.create)
    ∷ (codes "update", boolean m.update)
    ∷ (codes "delete", boolean m.delete)
    ∷ [])

abbrev pub type_names : TypeDef → List Field
type_names t =
    (codes "id", string t.id)
    ∷ (codes "localName", string t.local_name)
    ∷ (codes "localNamespace", string t.local_namespace)
    ∷ (codes "displayName", string t.display_name)
    ∷ (codes "queryName", string t.query_name)
    ∷ (codes "description", string t.description)
    ∷ []

abbrev pub type_flags : TypeDef → List Field
type_flags t =
    (codes "creatable", boolean t.creatable)
    ∷ (codes "fileable", boolean t.fileable)
    ∷ (codes "queryable", boolean t.queryable)
    ∷ (codes "fulltextIndexed", boolean t.fulltext_indexed)
    ∷ (codes "includedInSupertypeQuery", boolean t.included_in_supertype_query)
    ∷ (codes "controllablePolicy", boolean t.controllable_policy)
    ∷ (codes "controllableACL", boolean t.controllable_acl)
    ∷ []

-- a base type has none
abbrev pub parent_fields : Option (List ℕ) → List Field
parent_fields None = []
parent_fields (Some p) = (codes "parentId", string p) ∷ []

abbrev pub texts_data : List (List ℕ) → Data
texts_data ts = list_data (map string ts)

abbrev pub document_fields : TypeDef → List Field
document_fields t =
    (codes "versionable", boolean t.versionable)
    ∷ (codes "contentStreamAllowed", string (content_word t.content_allowed))
    ∷ []

abbrev pub relationship_fields : TypeDef → List Field
relationship_fields t =
    (codes "allowedSourceTypes", texts_data t.allowed_source_types)
    ∷ (codes "allowedTargetTypes", texts_data t.allowed_target_types)
    ∷ []

-- the attributes of documents and of relationships
abbrev pub base_fields : BaseType → TypeDef → List Field
base_fields bases.Document t = document_fields t
base_fields bases.Relationship t = relationship_fields t
base_fields _ t = []

-- the definitions of its own, where they are asked for
abbrev pub props_fields : Bool → List PropDef → List Field
props_fields false ds = []
props_fields true ds = (codes "propertyDefinitions", props_data ds) ∷ []

-- the base type, and what may be done with the type
abbrev pub type_values : TypeDef → List Field
type_values t =
    (codes "baseId", string (base_id t.base))
    ∷ (codes "typeMutability", mutability_data t.mutability)
    ∷ []

-- the definition of a type, with the property definitions of its own or without
unfoldable pub type_data : Bool → TypeDef → Data
type_data inner t = object
    (with_fields (props_fields inner t.properties)
    (with_fields (parent_fields t.parent)
    (with_fields (base_fields t.base t)
    (with_fields (type_flags t)
    (with_fields (type_values t)
    (with_fields (type_names t) no_members))))))
