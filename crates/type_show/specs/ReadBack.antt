-- The request that names a whole definition, and the definitions whose JSON is read back as it.
use Rattle.std.specs.Prelude.{ℤ, ◌≡◌, Bool, true, false, ◌&&◌, ◌||◌, List, [], ◌∷◌, map, Option, Some, is_some, unwrap_or, option_map, bytes_eq, All}
use Rattle.std.specs.List.{list_all}
use Rattle.serde_json.specs.Find.{as_i64, of_integer}
use Rattle.cm_base.specs.declared.value.Scalar.{Scalar}
use Rattle.cm_base.specs.declared.value.Scalar.TheVariants.{Flag, Whole, Time, Words}
use Rattle.cm_types.specs.declared.property.PropDef.{PropDef}
use Rattle.cm_types.specs.declared.property.PropertyKind.TheVariants as kinds
use Rattle.cm_types.specs.declared.definition.TypeDef.{TypeDef}
use Rattle.cm_types.specs.declared.request.PropRequest.{PropRequest}
use Rattle.cm_types.specs.declared.request.TypeRequest.{TypeRequest}
use Rattle.cm_types.specs.Properties.{scalars_of}
use Rattle.cm_types.specs.Changes.{of_kind, if_kept, is_document, is_relationship, is_before, base_id}
use Rattle.cm_types.specs.Sound.{IsSoundDef}
use Rattle.type_keys.specs.Words.{is_id, is_query_name}

-- each attribute of the definition is asked for; limits of its kind alone
abbrev pub asked_prop : PropDef → PropRequest
asked_prop d = record {
  id = d.id;
  local_name = Some d.local_name;
  local_namespace = Some d.local_namespace;
  display_name = Some d.display_name;
  query_name = Some d.query_name;
  description = Some d.description;
  kind = d.kind;
  cardinality = Some d.cardinality;
  updatability = Some d.updatability;
  required = Some d.required;
  queryable = Some d.queryable;
  orderable = Some d.orderable;
  open_choice = Some d.open_choice;
  choices = Some d.choices;
  default = Some (scalars_of d.default);
  max_length = of_kind kinds.String d.kind d.max_length;
  min_value = of_kind kinds.Integer d.kind d.min_value;
  max_value = of_kind kinds.Integer d.kind d.max_value;
}

-- each attribute of the type is asked for; those of documents and of relationships of them alone
abbrev pub asked_type : TypeDef → TypeRequest
asked_type t = record {
  id = t.id;
  base = base_id t.base;
  parent = t.parent;
  local_name = Some t.local_name;
  local_namespace = Some t.local_namespace;
  display_name = Some t.display_name;
  query_name = Some t.query_name;
  description = Some t.description;
  creatable = Some t.creatable;
  fileable = Some t.fileable;
  queryable = Some t.queryable;
  fulltext_indexed = Some t.fulltext_indexed;
  included_in_supertype_query = Some t.included_in_supertype_query;
  controllable_policy = Some t.controllable_policy;
  controllable_acl = Some t.controllable_acl;
  mutability = record { create = Some t.mutability.create; update = Some t.mutability.update; delete = Some t.mutability.delete };
  versionable = if_kept (is_document t.base) (Some t.versionable);
  content_allowed = if_kept (is_document t.base) (Some t.content_allowed);
  allowed_source_types = if_kept (is_relationship t.base) (Some t.allowed_source_types);
  allowed_target_types = if_kept (is_relationship t.base) (Some t.allowed_target_types);
  properties = map asked_prop t.properties;
}

-- ---- definitions that a request can make

-- an integer of 64 bits
abbrev pub fits : ℤ → Bool
fits n = is_some (as_i64 (of_integer n))

abbrev pub limit_fits : Option ℤ → Bool
limit_fits limit = unwrap_or (option_map fits limit) true

abbrev pub scalar_fits : Scalar → Bool
scalar_fits (Flag b) = true
scalar_fits (Whole n) = fits n
scalar_fits (Time n) = fits n
scalar_fits (Words t) = true

-- names of their forms, integers of 64 bits, and a sound definition
pub record IsSoundProp (d : PropDef) : Type 0 where
  pub id : is_id d.id ≡ true
  pub query_name : is_query_name d.query_name ≡ true
  pub default_fits : list_all scalar_fits (scalars_of d.default) ≡ true
  pub choices_fit : list_all (λ c. scalar_fits c.value) d.choices ≡ true
  pub max_length_fits : limit_fits d.max_length ≡ true
  pub min_value_fits : limit_fits d.min_value ≡ true
  pub max_value_fits : limit_fits d.max_value ≡ true
  pub def : IsSoundDef d

-- in byte order of their ids, each id once
abbrev pub ascend : List PropDef → Bool
ascend [] = true
ascend (d ∷ ds) = list_all (λ e. is_before d.id e.id) ds && ascend ds

-- names of their forms, a parent or the id of the base type, and sound property definitions in order
pub record IsSoundType (t : TypeDef) : Type 0 where
  pub id : is_id t.id ≡ true
  pub query_name : is_query_name t.query_name ≡ true
  pub parent : (is_some t.parent || bytes_eq t.id (base_id t.base)) ≡ true
  pub properties : All IsSoundProp t.properties
  pub in_order : ascend t.properties ≡ true

-- a type below this parent: what only documents or relationships have is the parent's or empty elsewhere
pub record IsMadeBelow (parent : TypeDef) (t : TypeDef) : Type 0 where
  pub base : t.base ≡ parent.base
  pub parent_is : t.parent ≡ Some parent.id
  pub fileable : t.fileable ≡ parent.fileable
  pub fulltext_indexed : t.fulltext_indexed ≡ false
  pub versionable : is_document t.base ≡ false → t.versionable ≡ parent.versionable
  pub content_allowed : is_document t.base ≡ false → t.content_allowed ≡ parent.content_allowed
  pub allowed_source_types : is_relationship t.base ≡ false → t.allowed_source_types ≡ []
  pub allowed_target_types : is_relationship t.base ≡ false → t.allowed_target_types ≡ []
