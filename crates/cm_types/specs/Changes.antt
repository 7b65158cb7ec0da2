-- What createType, updateType and deleteType make of the list of types, or why not (CMIS 1.1, sections 2.1.10 and 2.2.2.6 to 2.2.2.8).
use Rattle.std.specs.Prelude.{ℕ, ℤ, nat_le, nat_lt, Bool, true, false, ◌&&◌, ◌||◌, not, if◌then◌else◌, List, [], ◌∷◌, ◌++◌, length, map, filter, fold, Option, Some, None, Ok, unwrap_or, option_map, option_and_then, is_none, bytes_eq, codes}
use Rattle.std.specs.List.{list_any}
use Rattle.core.specs.Ordering.{nat_cmp, is_lt}
use Rattle.core.specs.Cmp.Lexicographic.{slice_cmp}
use lib.Pointwise.{pointwise}
use Rattle.cm_base.specs.declared.value.Scalar.{Scalar}
use Rattle.cm_base.specs.declared.value.Value.{Value}
use Rattle.cm_base.specs.declared.value.Value.TheVariants.{Unset, One, Many}
use Rattle.cm_base.specs.declared.cause.Cause.TheVariants as causes
use Rattle.cm_base.specs.Judged.{Judged, ◌>>=◌, ◌>>◌, refuse, find_or}
use Rattle.cm_types.specs.declared.property.PropDef.{PropDef}
use Rattle.cm_types.specs.declared.property.Choice.{Choice}
use Rattle.cm_types.specs.declared.property.PropertyKind.{PropertyKind}
use Rattle.cm_types.specs.declared.property.PropertyKind.TheVariants as kinds
use Rattle.cm_types.specs.declared.property.Cardinality.{Cardinality}
use Rattle.cm_types.specs.declared.property.Cardinality.TheVariants.{Single, Multi}
use Rattle.cm_types.specs.declared.property.Updatability.{Updatability}
use Rattle.cm_types.specs.declared.property.Updatability.TheVariants as may
use Rattle.cm_types.specs.declared.definition.BaseType.{BaseType}
use Rattle.cm_types.specs.declared.definition.BaseType.TheVariants as bases
use Rattle.cm_types.specs.declared.definition.ContentAllowed.{ContentAllowed}
use Rattle.cm_types.specs.declared.definition.ContentAllowed.TheVariants as contents
use Rattle.cm_types.specs.declared.definition.TypeMutability.{TypeMutability}
use Rattle.cm_types.specs.declared.definition.TypeDef.{TypeDef}
use Rattle.cm_types.specs.declared.request.PropRequest.{PropRequest}
use Rattle.cm_types.specs.declared.request.MutabilityRequest.{MutabilityRequest}
use Rattle.cm_types.specs.declared.request.TypeRequest.{TypeRequest}
use Rattle.cm_types.specs.Types.{type_in, longest_chain, chain, is_child_type, same_base}
use Rattle.cm_types.specs.Properties.{same_flag, same_whole, same_scalar, scalars_of, is_of_kind, is_too_long, is_out_of_range, def_of, value_fault}

-- ---- lists in byte order

abbrev pub is_before : List ℕ → List ℕ → Bool
is_before a b = is_lt (slice_cmp nat_cmp a b)

-- a new item between those whose names come before and after it, in place of one of its name
abbrev pub placed : {A : Type 0} → (A → List ℕ) → A → List A → List A
placed name x xs = filter (λ y. is_before (name y) (name x)) xs ++ x ∷ filter (λ y. is_before (name x) (name y)) xs

-- property definitions in byte order of their ids, a later one in place of an earlier one of its id
abbrev pub sorted_props : List PropDef → List PropDef
sorted_props defs = fold (λ all d. placed (λ e. e.id) d all) [] defs

abbrev pub placed_type : TypeDef → List TypeDef → List TypeDef
placed_type t types = placed (λ s. s.id) t types

-- types in byte order of their ids
abbrev pub sorted_types : List TypeDef → List TypeDef
sorted_types types = fold (λ all t. placed_type t all) [] types

-- ---- what is made of a request

abbrev pub flag_or : Bool → Option Bool → Bool
flag_or default given = unwrap_or given default

abbrev pub text_or : List ℕ → Option (List ℕ) → List ℕ
text_or default given = unwrap_or given default

-- no scalar is unset; a single property has one
abbrev pub default_of : Cardinality → List Scalar → Value
default_of cardinality [] = Unset
default_of Single (s ∷ ss) = One s
default_of Multi (s ∷ ss) = Many (s ∷ ss)

-- limits of another kind are not kept
abbrev pub of_kind : {A : Type 0} → PropertyKind → PropertyKind → Option A → Option A
of_kind kinds.String kinds.String limit = limit
of_kind kinds.Integer kinds.Integer limit = limit
of_kind _ _ limit = None

abbrev pub is_single : Cardinality → Bool
is_single Single = true
is_single Multi = false

abbrev pub cardinality_of : PropRequest → Cardinality
cardinality_of p = unwrap_or p.cardinality Single

-- a property definition with the defaults of what is not given
abbrev pub made_prop : PropRequest → PropDef
made_prop p = record {
  id = p.id;
  local_name = text_or p.id p.local_name;
  local_namespace = text_or [] p.local_namespace;
  display_name = text_or p.id p.display_name;
  query_name = text_or p.id p.query_name;
  description = text_or [] p.description;
  kind = p.kind;
  cardinality = cardinality_of p;
  updatability = unwrap_or p.updatability may.ReadWrite;
  required = flag_or false p.required;
  queryable = flag_or true p.queryable;
  orderable = flag_or (is_single (cardinality_of p)) p.orderable;
  open_choice = flag_or true p.open_choice;
  choices = unwrap_or p.choices [];
  default = default_of (cardinality_of p) (unwrap_or p.default []);
  max_length = of_kind kinds.String p.kind p.max_length;
  min_value = of_kind kinds.Integer p.kind p.min_value;
  max_value = of_kind kinds.Integer p.kind p.max_value;
}

abbrev pub made_props : List PropRequest → List PropDef
made_props ps = map made_prop ps

abbrev pub made_mutability : MutabilityRequest → TypeMutability
made_mutability m = record { create = flag_or true m.create; update = flag_or true m.update; delete = flag_or true m.delete }

abbrev pub is_document : BaseType → Bool
is_document base = same_base bases.Document base

abbrev pub is_relationship : BaseType → Bool
is_relationship base = same_base bases.Relationship base

abbrev pub is_secondary : BaseType → Bool
is_secondary base = same_base bases.Secondary base

-- what is asked of documents, and of relationships, is not kept of others
abbrev pub if_kept : {A : Type 0} → Bool → Option A → Option A
if_kept kept given = if kept then given else None

-- a type below its parent, with the defaults of what is not given
abbrev pub made_type : TypeDef → TypeRequest → TypeDef
made_type parent q = record {
  id = q.id;
  local_name = text_or q.id q.local_name;
  local_namespace = text_or [] q.local_namespace;
  display_name = text_or q.id q.display_name;
  query_name = text_or q.id q.query_name;
  description = text_or [] q.description;
  base = parent.base;
  parent = Some parent.id;
  creatable = flag_or parent.creatable q.creatable;
  fileable = parent.fileable;
  queryable = flag_or (is_secondary parent.base || parent.queryable) q.queryable;
  fulltext_indexed = false;
  included_in_supertype_query = flag_or true q.included_in_supertype_query;
  controllable_policy = flag_or parent.controllable_policy q.controllable_policy;
  controllable_acl = flag_or parent.controllable_acl q.controllable_acl;
  mutability = made_mutability q.mutability;
  versionable = flag_or parent.versionable (if_kept (is_document parent.base) q.versionable);
  content_allowed = unwrap_or (if_kept (is_document parent.base) q.content_allowed) parent.content_allowed;
  allowed_source_types = unwrap_or (if_kept (is_relationship parent.base) q.allowed_source_types) [];
  allowed_target_types = unwrap_or (if_kept (is_relationship parent.base) q.allowed_target_types) [];
  properties = sorted_props (made_props q.properties);
}

-- ---- rules of property definitions

-- two property definitions share an id or a query name
abbrev pub clashes : PropDef → PropDef → Bool
clashes d e = bytes_eq d.id e.id || bytes_eq d.query_name e.query_name

abbrev pub is_taken_prop : List TypeDef → PropDef → Bool
is_taken_prop types d = list_any (λ t. list_any (clashes d) t.properties) types

abbrev pub has_clash : List PropDef → Bool
has_clash [] = false
has_clash (d ∷ ds) = list_any (clashes d) ds || has_clash ds

-- the value of a choice has a fault of its own
abbrev pub is_wrong_choice : PropDef → Choice → Bool
is_wrong_choice d c = not (is_of_kind d.kind c.value) || is_too_long d c.value || is_out_of_range d c.value

-- more scalars than a single property has
abbrev pub is_many_for : Cardinality → List Scalar → Bool
is_many_for Single ss = nat_lt 1 (length ss)
is_many_for Multi ss = false

abbrev pub has_wrong_value : PropDef → Bool
has_wrong_value d = not (is_none (value_fault d d.default)) || list_any (is_wrong_choice d) d.choices

abbrev pub gives_many : PropRequest → Bool
gives_many p = is_many_for (cardinality_of p) (unwrap_or p.default [])

-- several values have no order
abbrev pub is_wrongly_ordered : PropDef → Bool
is_wrongly_ordered d = d.orderable && not (is_single d.cardinality)

-- new property definitions break a rule
abbrev pub breaks_def_rule : List TypeDef → List PropDef → Bool
breaks_def_rule types defs =
    list_any has_wrong_value defs
    || list_any is_wrongly_ordered defs
    || list_any (is_taken_prop types) defs
    || has_clash defs

abbrev pub breaks_prop_rule : List TypeDef → List PropRequest → Bool
breaks_prop_rule types ps = list_any gives_many ps || breaks_def_rule types (made_props ps)

-- ---- createType

-- the ids of the base types
abbrev pub base_id : BaseType → List ℕ
base_id bases.Document = codes "cmis:document"
base_id bases.Folder = codes "cmis:folder"
base_id bases.Relationship = codes "cmis:relationship"
base_id bases.Policy = codes "cmis:policy"
base_id bases.Item = codes "cmis:item"
base_id bases.Secondary = codes "cmis:secondary"

-- a parent is named that is not there
abbrev pub lacks_parent : List TypeDef → TypeRequest → Bool
lacks_parent types q = unwrap_or (option_map (λ p. is_none (type_in types p)) q.parent) false

-- another type has the id or the query name
abbrev pub is_taken : List TypeDef → TypeRequest → Bool
is_taken types q = list_any (λ t. bytes_eq t.id q.id || bytes_eq t.query_name (text_or q.id q.query_name)) types

-- a flag is given and is not this
abbrev pub is_given_as : Bool → Option Bool → Bool
is_given_as flag given = unwrap_or (option_map (same_flag flag) given) false

-- a type is fileable as its base is, a secondary type is not creatable, no type is indexed for full text
abbrev pub breaks_attribute_rule : TypeDef → TypeRequest → Bool
breaks_attribute_rule parent q =
    is_given_as (not parent.fileable) q.fileable
    || is_secondary parent.base && is_given_as true q.creatable
    || is_given_as true q.fulltext_indexed

abbrev pub breaks_type_rule : List TypeDef → TypeDef → TypeRequest → Bool
breaks_type_rule types parent q =
    not (bytes_eq (base_id parent.base) q.base)
    || nat_le longest_chain (length (chain types parent.id))
    || breaks_attribute_rule parent q
    || breaks_prop_rule types q.properties

-- the type that a request makes below this parent
abbrev pub judge_below : List TypeDef → TypeDef → TypeRequest → Judged TypeDef
judge_below types parent q = do
  refuse causes.TypeFixed (not parent.mutability.create)
  refuse causes.TypeRule (breaks_type_rule types parent q)
  Ok (made_type parent q)

-- the type that a request makes, or the first cause against it
abbrev pub judge_new_type : List TypeDef → TypeRequest → Judged TypeDef
judge_new_type types q = do
  refuse causes.TypeNotFound (lacks_parent types q)
  refuse causes.TypeTaken (is_taken types q)
  parent ← find_or causes.TypeRule (option_and_then (type_in types) q.parent)
  judge_below types parent q

-- the list of types with the new one
abbrev pub judge_with_type : List TypeDef → TypeRequest → Judged (List TypeDef)
judge_with_type types q = do
  t ← judge_new_type types q
  Ok (placed_type t types)

-- ---- updateType

-- it is given, and differs
abbrev pub changes : {A : Type 0} → (A → A → Bool) → Option A → A → Bool
changes same given old = unwrap_or (option_map (λ new. not (same new old)) given) false

abbrev pub changes_text : Option (List ℕ) → List ℕ → Bool
changes_text = changes bytes_eq

abbrev pub changes_flag : Option Bool → Bool → Bool
changes_flag = changes same_flag

abbrev pub same_kind : PropertyKind → PropertyKind → Bool
same_kind kinds.Boolean kinds.Boolean = true
same_kind kinds.Integer kinds.Integer = true
same_kind kinds.Datetime kinds.Datetime = true
same_kind kinds.String kinds.String = true
same_kind kinds.Uri kinds.Uri = true
same_kind kinds.Id kinds.Id = true
same_kind kinds.Html kinds.Html = true
same_kind _ _ = false

abbrev pub same_cardinality : Cardinality → Cardinality → Bool
same_cardinality a b = same_flag (is_single a) (is_single b)

abbrev pub same_updatability : Updatability → Updatability → Bool
same_updatability may.ReadOnly may.ReadOnly = true
same_updatability may.ReadWrite may.ReadWrite = true
same_updatability may.OnCreate may.OnCreate = true
same_updatability may.WhenCheckedOut may.WhenCheckedOut = true
same_updatability _ _ = false

abbrev pub same_content_allowed : ContentAllowed → ContentAllowed → Bool
same_content_allowed contents.NotAllowed contents.NotAllowed = true
same_content_allowed contents.Allowed contents.Allowed = true
same_content_allowed contents.Required contents.Required = true
same_content_allowed _ _ = false

abbrev pub same_choice : Choice → Choice → Bool
same_choice a b = bytes_eq a.display_name b.display_name && same_scalar a.value b.value

-- a limit of the own kind is given, and differs
abbrev pub changes_limit : Option ℤ → Option ℤ → Bool
changes_limit None old = false
changes_limit (Some new) None = true
changes_limit (Some new) (Some old) = not (same_whole new old)

abbrev pub changes_prop_texts : PropDef → PropRequest → Bool
changes_prop_texts d p =
    changes_text p.local_name d.local_name
    || changes_text p.local_namespace d.local_namespace
    || changes_text p.display_name d.display_name
    || changes_text p.query_name d.query_name
    || changes_text p.description d.description

abbrev pub changes_prop_flags : PropDef → PropRequest → Bool
changes_prop_flags d p =
    changes_flag p.required d.required
    || changes_flag p.queryable d.queryable
    || changes_flag p.orderable d.orderable
    || changes_flag p.open_choice d.open_choice

abbrev pub changes_prop_kind : PropDef → PropRequest → Bool
changes_prop_kind d p =
    not (same_kind p.kind d.kind)
    || changes same_cardinality p.cardinality d.cardinality
    || changes same_updatability p.updatability d.updatability

abbrev pub changes_prop_values : PropDef → PropRequest → Bool
changes_prop_values d p =
    changes (pointwise same_choice) p.choices d.choices
    || changes (pointwise same_scalar) p.default (scalars_of d.default)
    || changes_limit (of_kind kinds.String d.kind p.max_length) d.max_length
    || changes_limit (of_kind kinds.Integer d.kind p.min_value) d.min_value
    || changes_limit (of_kind kinds.Integer d.kind p.max_value) d.max_value

-- a request changes a property definition that is there
abbrev pub changes_prop : PropDef → PropRequest → Bool
changes_prop d p = changes_prop_kind d p || changes_prop_texts d p || changes_prop_flags d p || changes_prop_values d p

abbrev pub changes_old_prop : List PropDef → PropRequest → Bool
changes_old_prop defs p = unwrap_or (option_map (λ d. changes_prop d p) (def_of defs p.id)) false

-- the requests for properties that the type does not define
abbrev pub new_props : List PropDef → List PropRequest → List PropRequest
new_props defs ps = filter (λ p. is_none (def_of defs p.id)) ps

-- a parent is named that is not the type's
abbrev pub changes_parent : Option (List ℕ) → Option (List ℕ) → Bool
changes_parent given old = unwrap_or (option_map (λ p. not (unwrap_or (option_map (bytes_eq p) old) false)) given) false

abbrev pub changes_texts : TypeDef → TypeRequest → Bool
changes_texts t q =
    not (bytes_eq q.base (base_id t.base))
    || changes_parent q.parent t.parent
    || changes_text q.local_name t.local_name
    || changes_text q.local_namespace t.local_namespace
    || changes_text q.query_name t.query_name

abbrev pub changes_flags : TypeDef → TypeRequest → Bool
changes_flags t q =
    changes_flag q.creatable t.creatable
    || changes_flag q.fileable t.fileable
    || changes_flag q.queryable t.queryable
    || changes_flag q.fulltext_indexed t.fulltext_indexed
    || changes_flag q.included_in_supertype_query t.included_in_supertype_query
    || changes_flag q.controllable_policy t.controllable_policy
    || changes_flag q.controllable_acl t.controllable_acl

abbrev pub changes_mutability : TypeMutability → MutabilityRequest → Bool
changes_mutability m q = changes_flag q.create m.create || changes_flag q.update m.update || changes_flag q.delete m.delete

abbrev pub changes_own : TypeDef → TypeRequest → Bool
changes_own t q =
    changes_flag (if_kept (is_document t.base) q.versionable) t.versionable
    || changes same_content_allowed (if_kept (is_document t.base) q.content_allowed) t.content_allowed
    || changes (pointwise bytes_eq) (if_kept (is_relationship t.base) q.allowed_source_types) t.allowed_source_types
    || changes (pointwise bytes_eq) (if_kept (is_relationship t.base) q.allowed_target_types) t.allowed_target_types

-- a change of anything but the display name, the description and properties that are new and not required
abbrev pub breaks_change_rule : List TypeDef → TypeDef → TypeRequest → Bool
breaks_change_rule types t q =
    changes_texts t q
    || changes_flags t q
    || changes_mutability t.mutability q.mutability
    || changes_own t q
    || list_any (changes_old_prop t.properties) q.properties
    || list_any (λ d. d.required) (made_props (new_props t.properties q.properties))
    || breaks_prop_rule types (new_props t.properties q.properties)

abbrev pub changed_type : TypeDef → TypeRequest → TypeDef
changed_type t q = record t {
  display_name = text_or t.display_name q.display_name;
  description = text_or t.description q.description;
  properties = sorted_props (t.properties ++ made_props (new_props t.properties q.properties));
}

-- the changed type
abbrev pub judge_change_of : List TypeDef → TypeDef → TypeRequest → Judged TypeDef
judge_change_of types t q = do
  refuse causes.TypeFixed (not t.mutability.update)
  refuse causes.TypeRule (breaks_change_rule types t q)
  Ok (changed_type t q)

-- the type that a request changes, as it is then, or the first cause against it
abbrev pub judge_changed_type : List TypeDef → TypeRequest → Judged TypeDef
judge_changed_type types q = do
  t ← find_or causes.TypeNotFound (type_in types q.id)
  judge_change_of types t q

-- the list of types with the changed one
abbrev pub judge_with_change : List TypeDef → TypeRequest → Judged (List TypeDef)
judge_with_change types q = do
  t ← judge_changed_type types q
  Ok (placed_type t types)

-- ---- deleteType

-- it may be removed
abbrev pub judge_removal_of : List TypeDef → TypeDef → Judged (Unit {0})
judge_removal_of types t = do
  refuse causes.TypeFixed (not t.mutability.delete)
  refuse causes.TypeInUse (list_any (is_child_type t.id) types)

-- the type may be removed as far as the types tell, or the first cause against it
abbrev pub judge_removed_type : List TypeDef → List ℕ → Judged (Unit {0})
judge_removed_type types id = do
  t ← find_or causes.TypeNotFound (type_in types id)
  judge_removal_of types t

abbrev pub without_type : List TypeDef → List ℕ → List TypeDef
without_type types id = filter (λ t. not (bytes_eq t.id id)) types

-- the list of types without the one that is removed
abbrev pub judge_without_type : List TypeDef → List ℕ → Judged (List TypeDef)
judge_without_type types id = do
  judge_removed_type types id
  Ok (without_type types id)
