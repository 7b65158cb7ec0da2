-- The kinds of values that stand in the JSON of a type definition, its keys, and the kind of each (CMIS 1.1, section 5.2.9).
use Rattle.std.specs.Prelude.{ℕ, Bool, true, false, ◌&&◌, ◌||◌, not, if◌then◌else◌, List, [], ◌∷◌, Option, Some, None, unwrap_or, option_map, is_some, bytes_eq, codes}
use Rattle.std.specs.List.{list_any, list_all}
use Rattle.serde_json.specs.Data.{Data, Items, no_items, item, Members, no_members, member}
use Rattle.serde_json.specs.Find.{as_bool, as_str, as_array, as_object}
use Rattle.json_text.specs.Keys.{value_at, as_whole}
use Rattle.type_keys.specs.Words.{content_of, kind_of, cardinality_of, updatability_of}
use Rattle.type_keys.specs.declared.kind.KeyKind.{KeyKind}
use Rattle.type_keys.specs.declared.kind.KeyKind.TheVariants as keys

-- ---- kinds of JSON

abbrev pub list_of : Items → List Data
list_of no_items = []
list_of (item d ds) = d ∷ list_of ds

abbrev pub pairs_of : Members → List (List ℕ × Data)
pairs_of no_members = []
pairs_of (member k d ms) = (k, d) ∷ pairs_of ms

abbrev pub is_text : Data → Bool
is_text d = is_some (as_str d)

abbrev pub is_flag : Data → Bool
is_flag d = is_some (as_bool d)

abbrev pub is_whole : Data → Bool
is_whole d = is_some (as_whole d)

-- a boolean, an integer of 64 bits or a string
abbrev pub is_item : Data → Bool
is_item d = is_flag d || is_whole d || is_text d

abbrev pub is_object : Data → Bool
is_object d = is_some (as_object d)

abbrev pub is_list : (Data → Bool) → Data → Bool
is_list test d = unwrap_or (option_map (λ ds. list_all test (list_of ds)) (as_array d)) false

-- the value at the key is there and passes the test
abbrev pub has_at : (Data → Bool) → List ℕ → Data → Bool
has_at test key d = unwrap_or (option_map test (value_at key d)) false

-- it is there and does not pass
abbrev pub wrong_at : (Data → Bool) → List ℕ → Data → Bool
wrong_at test key d = unwrap_or (option_map (λ v. not (test v)) (value_at key d)) false

abbrev pub is_choice : Data → Bool
is_choice d = has_at is_text (codes "displayName") d && has_at is_item (codes "value") d

abbrev pub is_mutability : Data → Bool
is_mutability d =
    is_object d
    && not (wrong_at is_flag (codes "create") d || wrong_at is_flag (codes "update") d || wrong_at is_flag (codes "delete") d)

abbrev pub is_objects : Data → Bool
is_objects d = unwrap_or (option_map (λ ms. list_all (λ p. is_object p.1) (pairs_of ms)) (as_object d)) false

-- a word of a list
abbrev pub is_word : {A : Type 0} → (List ℕ → Option A) → Data → Bool
is_word words d = unwrap_or (option_map (λ w. is_some (words w)) (as_str d)) false

abbrev pub time_of : List ℕ → Option Bool
time_of w = if bytes_eq w (codes "time") then Some true else None

abbrev pub has_kind : KeyKind → Data → Bool
has_kind keys.Text d = is_text d
has_kind keys.Flag d = is_flag d
has_kind keys.Whole d = is_whole d
has_kind keys.Texts d = is_list is_text d
has_kind keys.Scalars d = is_list is_item d
has_kind keys.Choices d = is_list is_choice d
has_kind keys.Mutability d = is_mutability d
has_kind keys.Objects d = is_objects d
has_kind keys.ContentWord d = is_word content_of d
has_kind keys.KindWord d = is_word kind_of d
has_kind keys.CardinalityWord d = is_word cardinality_of d
has_kind keys.UpdatabilityWord d = is_word updatability_of d
has_kind keys.TimeWord d = is_word time_of d

-- ---- keys

-- the keys of a type, and the kind of each
abbrev pub type_keys : List (List ℕ × KeyKind)
type_keys =
    (codes "id", keys.Text)
    ∷ (codes "localName", keys.Text)
    ∷ (codes "localNamespace", keys.Text)
    ∷ (codes "displayName", keys.Text)
    ∷ (codes "queryName", keys.Text)
    ∷ (codes "description", keys.Text)
    ∷ (codes "baseId", keys.Text)
    ∷ (codes "parentId", keys.Text)
    ∷ (codes "creatable", keys.Flag)
    ∷ (codes "fileable", keys.Flag)
    ∷ (codes "queryable", keys.Flag)
    ∷ (codes "fulltextIndexed", keys.Flag)
    ∷ (codes "includedInSupertypeQuery", keys.Flag)
    ∷ (codes "controllablePolicy", keys.Flag)
    ∷ (codes "controllableACL", keys.Flag)
    ∷ (codes "typeMutability", keys.Mutability)
    ∷ (codes "versionable", keys.Flag)
    ∷ (codes "contentStreamAllowed", keys.ContentWord)
    ∷ (codes "allowedSourceTypes", keys.Texts)
    ∷ (codes "allowedTargetTypes", keys.Texts)
    ∷ (codes "propertyDefinitions", keys.Objects)
    ∷ []

-- the keys of a property definition
abbrev pub prop_keys : List (List ℕ × KeyKind)
prop_keys =
    (codes "id", keys.Text)
    ∷ (codes "localName", keys.Text)
    ∷ (codes "localNamespace", keys.Text)
    ∷ (codes "displayName", keys.Text)
    ∷ (codes "queryName", keys.Text)
    ∷ (codes "description", keys.Text)
    ∷ (codes "propertyType", keys.KindWord)
    ∷ (codes "cardinality", keys.CardinalityWord)
    ∷ (codes "updatability", keys.UpdatabilityWord)
    ∷ (codes "inherited", keys.Flag)
    ∷ (codes "required", keys.Flag)
    ∷ (codes "queryable", keys.Flag)
    ∷ (codes "orderable", keys.Flag)
    ∷ (codes "openChoice", keys.Flag)
    ∷ (codes "choice", keys.Choices)
    ∷ (codes "defaultValue", keys.Scalars)
    ∷ (codes "maxLength", keys.Whole)
    ∷ (codes "minValue", keys.Whole)
    ∷ (codes "maxValue", keys.Whole)
    ∷ (codes "resolution", keys.TimeWord)
    ∷ []

-- a key has a value of another kind
abbrev pub has_wrong_key : List (List ℕ × KeyKind) → Data → Bool
has_wrong_key all d = list_any (λ k. wrong_at (has_kind k.1) k.0 d) all
