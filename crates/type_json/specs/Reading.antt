-- What a text of a type definition asks for, and which texts are none.
use Rattle.std.specs.Prelude.{ℕ, ℤ, Bool, ◌||◌, ◌&&◌, not, List, [], map, filter_map, Option, Some, None, Ok, unwrap_or, option_map, option_and_then, is_none, bytes_eq, codes}
use Rattle.std.specs.List.{list_any}
use Rattle.serde_json.specs.Data.{Data, null, boolean, number, string, array, object}
use Rattle.serde_json.specs.Find.{as_bool, as_str, as_array, as_object}
use Rattle.serde_json.specs.Read.{read}
use Rattle.json_text.specs.Keys.{value_at, as_whole}
use Rattle.cm_base.specs.declared.value.Scalar.{Scalar}
use Rattle.cm_base.specs.declared.value.Scalar.TheVariants.{Flag, Whole, Time, Words}
use Rattle.cm_base.specs.declared.cause.Cause.TheVariants as causes
use Rattle.cm_base.specs.Judged.{Judged, ◌>>=◌, ◌>>◌, refuse, find_or}
use Rattle.cm_types.specs.declared.property.Choice.{Choice}
use Rattle.cm_types.specs.declared.property.PropertyKind.{PropertyKind}
use Rattle.cm_types.specs.declared.property.PropertyKind.TheVariants as kinds
use Rattle.cm_types.specs.declared.request.PropRequest.{PropRequest}
use Rattle.cm_types.specs.declared.request.MutabilityRequest.{MutabilityRequest}
use Rattle.cm_types.specs.declared.request.TypeRequest.{TypeRequest}
use Rattle.cm_types.specs.Changes.{made_props, has_wrong_value, gives_many}
use Rattle.type_keys.specs.Words.{content_of, kind_of, cardinality_of, updatability_of, is_id, is_query_name}
use Rattle.type_keys.specs.Keys.{list_of, pairs_of, is_object, has_wrong_key, type_keys, prop_keys}

-- ---- what stands at a key

abbrev pub text_in : List ℕ → Data → Option (List ℕ)
text_in key d = option_and_then as_str (value_at key d)

abbrev pub id_in : Data → List ℕ
id_in d = unwrap_or (text_in (codes "id") d) []

abbrev pub base_in : Data → List ℕ
base_in d = unwrap_or (text_in (codes "baseId") d) []

abbrev pub flag_in : List ℕ → Data → Option Bool
flag_in key d = option_and_then as_bool (value_at key d)

abbrev pub whole_in : List ℕ → Data → Option ℤ
whole_in key d = option_and_then as_whole (value_at key d)

abbrev pub list_in : List ℕ → Data → Option (List Data)
list_in key d = option_map list_of (option_and_then as_array (value_at key d))

abbrev pub texts_in : List ℕ → Data → Option (List (List ℕ))
texts_in key d = option_map (filter_map as_str) (list_in key d)

-- an integer of a datetime property is a moment
abbrev pub number_scalar : PropertyKind → ℤ → Scalar
number_scalar kinds.Datetime n = Time n
number_scalar _ n = Whole n

abbrev pub scalar_of : PropertyKind → Data → Option Scalar
scalar_of kind null = None
scalar_of kind (boolean b) = Some (Flag b)
scalar_of kind (number n) = option_map (number_scalar kind) (as_whole (number n))
scalar_of kind (string s) = Some (Words s)
scalar_of kind (array ds) = None
scalar_of kind (object ms) = None

abbrev pub scalars_in : PropertyKind → List ℕ → Data → Option (List Scalar)
scalars_in kind key d = option_map (filter_map (scalar_of kind)) (list_in key d)

abbrev pub choice_of : PropertyKind → Data → Option Choice
choice_of kind d =
    option_map (λ s. record { display_name = unwrap_or (text_in (codes "displayName") d) []; value = s })
    (option_and_then (scalar_of kind) (value_at (codes "value") d))

abbrev pub choices_in : PropertyKind → List ℕ → Data → Option (List Choice)
choices_in kind key d = option_map (filter_map (choice_of kind)) (list_in key d)

-- ---- what is asked of a property definition

abbrev pub prop_kind : Data → PropertyKind
prop_kind d = unwrap_or (option_and_then kind_of (text_in (codes "propertyType") d)) kinds.String

abbrev pub prop_request : Data → PropRequest
prop_request d = record {
  id = id_in d;
  local_name = text_in (codes "localName") d;
  local_namespace = text_in (codes "localNamespace") d;
  display_name = text_in (codes "displayName") d;
  query_name = text_in (codes "queryName") d;
  description = text_in (codes "description") d;
  kind = prop_kind d;
  cardinality = option_and_then cardinality_of (text_in (codes "cardinality") d);
  updatability = option_and_then updatability_of (text_in (codes "updatability") d);
  required = flag_in (codes "required") d;
  queryable = flag_in (codes "queryable") d;
  orderable = flag_in (codes "orderable") d;
  open_choice = flag_in (codes "openChoice") d;
  choices = choices_in (prop_kind d) (codes "choice") d;
  default = scalars_in (prop_kind d) (codes "defaultValue") d;
  max_length = whole_in (codes "maxLength") d;
  min_value = whole_in (codes "minValue") d;
  max_value = whole_in (codes "maxValue") d;
}

abbrev pub props_in : Data → List (List ℕ × Data)
props_in d = unwrap_or (option_map pairs_of (option_and_then as_object (value_at (codes "propertyDefinitions") d))) []

-- what is asked of each property definition, in byte order of their keys
abbrev pub prop_requests : Data → List PropRequest
prop_requests d = map (λ p. prop_request p.1) (props_in d)

-- ---- what is asked of a type

-- what stands in an object at a key; nothing where there is none
abbrev pub flag_within : List ℕ → Option Data → Option Bool
flag_within key within = option_and_then (flag_in key) within

abbrev pub mutability_request : Option Data → MutabilityRequest
mutability_request within = record {
  create = flag_within (codes "create") within;
  update = flag_within (codes "update") within;
  delete = flag_within (codes "delete") within;
}

abbrev pub type_request : Data → TypeRequest
type_request d = record {
  id = id_in d;
  base = base_in d;
  parent = text_in (codes "parentId") d;
  local_name = text_in (codes "localName") d;
  local_namespace = text_in (codes "localNamespace") d;
  display_name = text_in (codes "displayName") d;
  query_name = text_in (codes "queryName") d;
  description = text_in (codes "description") d;
  creatable = flag_in (codes "creatable") d;
  fileable = flag_in (codes "fileable") d;
  queryable = flag_in (codes "queryable") d;
  fulltext_indexed = flag_in (codes "fulltextIndexed") d;
  included_in_supertype_query = flag_in (codes "includedInSupertypeQuery") d;
  controllable_policy = flag_in (codes "controllablePolicy") d;
  controllable_acl = flag_in (codes "controllableACL") d;
  mutability = mutability_request (value_at (codes "typeMutability") d);
  versionable = flag_in (codes "versionable") d;
  content_allowed = option_and_then content_of (text_in (codes "contentStreamAllowed") d);
  allowed_source_types = texts_in (codes "allowedSourceTypes") d;
  allowed_target_types = texts_in (codes "allowedTargetTypes") d;
  properties = prop_requests d;
}

-- ---- why a text asks for no type

-- the key is missing, or null
abbrev pub lacks : List ℕ → Data → Bool
lacks key d = is_none (value_at key d)

abbrev pub lacks_prop_key : Data → Bool
lacks_prop_key d = lacks (codes "id") d || lacks (codes "propertyType") d

-- only a type that is its own base has no parent
abbrev pub lacks_parent : Data → Bool
lacks_parent d = lacks (codes "parentId") d && not (bytes_eq (id_in d) (base_in d))

-- a key that is needed is missing
abbrev pub lacks_key : Data → Bool
lacks_key d =
    lacks (codes "id") d
    || lacks (codes "baseId") d
    || lacks_parent d
    || list_any (λ p. lacks_prop_key p.1) (props_in d)

-- the key of a property definition is not its id
abbrev pub has_other_key : Data → Bool
has_other_key d = list_any (λ p. not (bytes_eq (id_in p.1) p.0)) (props_in d)

-- a value of another kind of JSON, an integer of more than 64 bits, or a word that is none of its list
abbrev pub has_wrong_kind : Data → Bool
has_wrong_kind d = has_wrong_key type_keys d || list_any (λ p. has_wrong_key prop_keys p.1) (props_in d)

-- an id, or a query name, which is the id where none is given, of another form
abbrev pub has_wrong_name : Data → Bool
has_wrong_name d = not (is_id (id_in d)) || not (is_query_name (unwrap_or (text_in (codes "queryName") d) (id_in d)))

abbrev pub has_wrong_names : Data → Bool
has_wrong_names d = has_wrong_name d || list_any (λ p. has_wrong_name p.1) (props_in d)

-- a default value of several items for a single property; a default value or a choice with a fault of its own
abbrev pub have_wrong_values : List PropRequest → Bool
have_wrong_values ps = list_any gives_many ps || list_any has_wrong_value (made_props ps)

-- the request, where no property definition has wrong values
abbrev pub judge_values : Data → Judged TypeRequest
judge_values d = do
  refuse causes.BadTypeText (have_wrong_values (prop_requests d))
  Ok (type_request d)

-- the request of a value, or BadTypeText
abbrev pub judge_type : Data → Judged TypeRequest
judge_type d = do
  refuse causes.BadTypeText (not (is_object d))
  refuse causes.BadTypeText (has_wrong_kind d)
  refuse causes.BadTypeText (lacks_key d)
  refuse causes.BadTypeText (has_other_key d)
  refuse causes.BadTypeText (has_wrong_names d)
  judge_values d

-- the request of a text, or BadTypeText
abbrev pub judge_type_text : List ℕ → Judged TypeRequest
judge_type_text text = do
  d ← find_or causes.BadTypeText (read text)
  judge_type d
