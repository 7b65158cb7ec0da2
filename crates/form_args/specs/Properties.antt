-- The properties that a form gives (CMIS 1.1, section 5.4.4.3.3).
use Rattle.std.specs.Prelude.{ℕ, ◌+◌, nat_lt, List, [], ◌∷◌, length, codes, bytes_eq, Bool, true, false, not, ◌&&◌, ◌||◌, Option, Some, None, Ok}
use Rattle.std.specs.List.{list_any}
use Rattle.cm_base.specs.declared.cause.Cause.TheVariants as causes
use Rattle.cm_base.specs.Judged.{Judged, ◌>>◌, refuse}
use Rattle.cm_types.specs.declared.given.Given.{Given}
use Rattle.form_args.specs.declared.pairs.Pair.{Pair}
use Rattle.form_args.specs.Pairs.{first_of, indexed, texts_of}

-- a call gives at most so many properties, and at most so many values of one
unfoldable pub most_properties : ℕ
most_properties = 16

unfoldable pub most_values : ℕ
most_values = 1024

abbrev pub has_some : {A : Type 0} → List A → Bool
has_some [] = false
has_some (x ∷ xs) = true

-- propertyValue[i] is one value; else propertyValue[i][0], propertyValue[i][1], .. are several; neither unsets the property
abbrev pub given_by : List ℕ → Option (List ℕ) → List (List ℕ) → Given
given_by id (Some v) values = record { id = id; texts = v ∷ []; several = false }
given_by id None values = record { id = id; texts = values; several = has_some values }

abbrev pub given_under : List Pair → List ℕ → ℕ → List ℕ → Given
given_under pairs name i id = given_by id (first_of pairs (indexed name i)) (texts_of pairs (indexed name i))

abbrev pub given_at : List Pair → ℕ → List ℕ → Given
given_at pairs i id = given_under pairs (codes "propertyValue") i id

-- one for each id, with the values at its place
abbrev pub givens_from : List Pair → ℕ → List (List ℕ) → List Given
givens_from pairs i [] = []
givens_from pairs i (id ∷ ids) = given_at pairs i id ∷ givens_from pairs (i + 1) ids

-- the ids propertyId[0], propertyId[1], ..
abbrev pub property_ids : List Pair → List (List ℕ)
property_ids pairs = texts_of pairs (codes "propertyId")

-- some text stands twice
abbrev pub repeats : List (List ℕ) → Bool
repeats [] = false
repeats (x ∷ xs) = list_any (λ y. bytes_eq y x) xs || repeats xs

abbrev pub is_long : Given → Bool
is_long g = nat_lt most_values (length g.texts)

-- the properties that a form gives: not too many, each once, none with too many values
abbrev pub properties_of : List Pair → Judged (List Given)
properties_of pairs = do
  refuse (causes.BadArgument (codes "propertyId")) (nat_lt most_properties (length (property_ids pairs)))
  refuse (causes.BadArgument (codes "propertyId")) (repeats (property_ids pairs))
  refuse (causes.BadArgument (codes "propertyValue")) (list_any is_long (givens_from pairs 0 (property_ids pairs)))
  Ok (givens_from pairs 0 (property_ids pairs))

abbrev pub names_type : Given → Bool
names_type g = bytes_eq g.id (codes "cmis:objectTypeId") && has_some g.texts

-- a create names the type of the new object: cmis:objectTypeId is given, and not as unset
abbrev pub typed : List Given → Judged (Unit {0})
typed properties = refuse (causes.MissingArgument (codes "cmis:objectTypeId")) (not (list_any names_type properties))
