-- What the refusals and effects of writes share.
use Rattle.std.specs.Prelude.{ℕ, ◌+◌, ◌==◌, nat_lt, sum, Bool, false, ◌&&◌, not, if◌then◌else◌, List, [], ◌∷◌, map, filter, filter_map, length, Option, Some, None, is_none, option_map, unwrap_or, Ok, bytes_eq, codes}
use Rattle.std.specs.List.{list_any, flat_map}
use Rattle.cm_base.specs.Decimals.{decimal_u64}
use Rattle.cm_base.specs.declared.number.Oid.{Oid}
use Rattle.cm_base.specs.declared.object.Object.{Object}
use Rattle.cm_base.specs.declared.access.Ace.{Ace}
use Rattle.cm_base.specs.declared.access.Level.TheVariants as levels
use Rattle.cm_base.specs.declared.value.Scalar.{Scalar}
use Rattle.cm_base.specs.declared.value.Scalar.TheVariants.{Words}
use Rattle.cm_base.specs.declared.value.Value.{Value}
use Rattle.cm_base.specs.declared.cause.Cause.{Cause}
use Rattle.cm_base.specs.declared.cause.Cause.TheVariants as causes
use Rattle.cm_base.specs.Judged.{Judged, ◌>>◌, refuse}
use Rattle.cm_types.specs.declared.definition.TypeDef.{TypeDef}
use Rattle.cm_types.specs.declared.definition.BaseType.TheVariants as bases
use Rattle.cm_types.specs.declared.property.PropDef.{PropDef}
use Rattle.cm_types.specs.declared.given.Given.{Given}
use Rattle.cm_types.specs.Types.{type_in, is_below, is_below_any}
use Rattle.cm_types.specs.Properties.{value_in, scalars_of, texts_of, given_of, given_texts}
use Rattle.call_parts.specs.declared.writes.AceRequest.{AceRequest}
use Rattle.cm_acl.specs.Acl.{level_named, changed_aces}
use Rattle.cmis_spec.specs.Repository.{Repository, is_a}
use Rattle.cmis_spec.specs.Access.{read_named}

-- ---- limits

-- the steps, and then the bytes
abbrev pub judge_storage : Repository → ℕ → Judged (Unit {0})
judge_storage r cost = do
  refuse (causes.Storage r.step 1 r.limits.most_steps) (nat_lt r.limits.most_steps (r.step + 1))
  refuse (causes.Storage r.cost cost r.limits.most_bytes) (nat_lt r.limits.most_bytes (r.cost + cost))

-- ---- change tokens (section 2.2.1.3)

-- the text is the number of the step that last changed x
abbrev pub is_token : Object → List ℕ → Bool
is_token x text = unwrap_or (option_map (λ n. n == x.token) (decimal_u64 text)) false

-- no token is asked for, but one that is given must be the kept one
abbrev pub judge_token : Object → Option (List ℕ) → Judged (Unit {0})
judge_token x None = Ok tt
judge_token x (Some text) = refuse (causes.Token text x.token) (not (is_token x text))

-- ---- given properties

abbrev pub first_text : List (List ℕ) → List ℕ
first_text [] = []
first_text (t ∷ ts) = t

-- the first text of a given property
abbrev pub given_text : List Given → List ℕ → List ℕ
given_text given id = first_text (given_texts given id)

abbrev pub name_in : List Given → List ℕ
name_in given = given_text given (codes "cmis:name")

abbrev pub type_id_in : List Given → List ℕ
type_id_in given = given_text given (codes "cmis:objectTypeId")

-- each text where it stands first
abbrev pub distinct : List (List ℕ) → List (List ℕ)
distinct [] = []
distinct (t ∷ ts) = t ∷ filter (λ s. not (bytes_eq s t)) (distinct ts)

-- the secondary types that are asked for; repeats are dropped
abbrev pub secondary_in : List Given → List (List ℕ)
secondary_in given = distinct (given_texts given (codes "cmis:secondaryObjectTypeIds"))

-- ---- types

abbrev pub unknown_type : List TypeDef → List ℕ → Option Cause
unknown_type types id = if is_none (type_in types id) then Some causes.TypeNotFound else None

-- one of the types is not below cmis:secondary
abbrev pub has_other_secondary : List TypeDef → List (List ℕ) → Bool
has_other_secondary types ids = list_any (λ id. not (is_below types id (codes "cmis:secondary"))) ids

-- a list of types is set and names neither the type nor an ancestor of it
abbrev pub bars : List TypeDef → List ℕ → Value → Bool
bars types kind v = nat_lt 0 (length (scalars_of v)) && not (is_below_any types kind (texts_of v))

-- the folder says which types its children may have, and bars this one
abbrev pub bars_child : Repository → Object → List ℕ → Bool
bars_child r folder kind = bars r.types kind (value_in folder.values (codes "cmis:allowedChildObjectTypeIds"))

-- ---- policies

abbrev pub unread_cause : Repository → List ℕ → List ℕ → Option Cause
unread_cause r u id = if is_none (read_named r u id) then Some causes.NotFound else None

-- the objects of these ids, where the caller reads them
abbrev pub read_all : Repository → List ℕ → List (List ℕ) → List Object
read_all r u ids = filter_map (read_named r u) ids

abbrev pub has_other_policy : Repository → List ℕ → List (List ℕ) → Bool
has_other_policy r u ids = list_any (λ x. not (is_a r bases.Policy x)) (read_all r u ids)

-- the policies to apply, each once
abbrev pub policies_in : Repository → List ℕ → List (List ℕ) → List Oid
policies_in r u ids = map (λ x. x.id) (read_all r u (distinct ids))

-- ---- access control entries

-- one of the permissions is none of the three
abbrev pub has_unknown_permission : List AceRequest → Bool
has_unknown_permission asked = list_any (λ a. list_any (λ p. is_none (level_named p)) a.permissions) asked

-- something is asked for
abbrev pub has_entries : List AceRequest → Bool
has_entries asked = list_any (λ a. nat_lt 0 (length a.permissions)) asked

abbrev pub aces_of : AceRequest → List Ace
aces_of a = map (λ level. record { principal = a.principal; level = level }) (filter_map level_named a.permissions)

-- the entries that are asked for
abbrev pub aces_in : List AceRequest → List Ace
aces_in asked = flat_map aces_of asked

-- the list of a new object: its maker may do anything, and then what the request takes off and adds
abbrev pub new_aces : List ℕ → List AceRequest → List AceRequest → List Ace
new_aces maker remove add = changed_aces (record { principal = maker; level = levels.All } ∷ []) (aces_in remove) (aces_in add)

-- ---- costs

-- 64 for a scalar, and the bytes of a text
abbrev pub scalar_cost : Scalar → ℕ
scalar_cost (Words t) = 64 + length t
scalar_cost s = 64

abbrev pub value_cost : Value → ℕ
value_cost v = sum (map scalar_cost (scalars_of v))

-- the default values that a create takes
abbrev pub defaults_cost : List PropDef → List Given → ℕ
defaults_cost defs given = sum (map (λ d. value_cost d.default) (filter (λ d. is_none (given_of given d.id)) defs))
