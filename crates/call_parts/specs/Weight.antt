-- The weight of a write: what it adds to the cost of the repository, besides what it copies.
use Rattle.std.specs.Prelude.{ℕ, ◌+◌, ◌-◌, ◌^◌, min, List, [], ◌∷◌, ◌++◌, length, map, sum}
use Rattle.std.specs.List.{flat_map}
use Rattle.cm_types.specs.declared.given.Given.{Given}
use Rattle.call_parts.specs.declared.place.Place.{Place}
use Rattle.call_parts.specs.declared.place.Place.TheVariants.{Id, Path}
use Rattle.call_parts.specs.declared.writes.AceRequest.{AceRequest}
use Rattle.call_parts.specs.declared.writes.CreateFolder.{CreateFolder}

-- ---- the texts of a call

abbrev pub texts_of_place : Place → List (List ℕ)
texts_of_place (Id id) = id ∷ []
texts_of_place (Path names) = names

abbrev pub texts_of_given : Given → List (List ℕ)
texts_of_given g = g.id ∷ g.texts

abbrev pub texts_of_ace : AceRequest → List (List ℕ)
texts_of_ace a = a.principal ∷ a.permissions

abbrev pub texts_of_create_folder : CreateFolder → List (List ℕ)
texts_of_create_folder call =
    texts_of_place call.place
    ++ flat_map texts_of_given call.properties
    ++ call.policies
    ++ flat_map texts_of_ace call.remove
    ++ flat_map texts_of_ace call.add

-- ---- the weight

-- the bytes of a text, and 64 for the text itself
abbrev pub text_weight : List ℕ → ℕ
text_weight t = length t + 64

abbrev pub weight_of_texts : List (List ℕ) → ℕ
weight_of_texts ts = sum (map text_weight ts)

-- a number that is kept in 64 bits; a greater one counts as the greatest
abbrev pub bounded : ℕ → ℕ
bounded n = min n (2 ^ 64 - 1)

-- 64 for the call, and its texts
abbrev pub weight_of_create_folder : CreateFolder → ℕ
weight_of_create_folder call = bounded (64 + weight_of_texts (texts_of_create_folder call))
