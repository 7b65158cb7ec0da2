-- What an index of names tells.
use Rattle.std.specs.Prelude.{◌≡◌, ℕ, List, Option, bytes_eq}
use Rattle.std.specs.Option.{is_some}
use Rattle.std.specs.List.{list_any}

-- it finds the names of the list, and no others
abbrev pub FindsNames : {A : Type 0} → (List ℕ → Option A) → List (List ℕ) → Type 0
FindsNames find names = (q : List ℕ) → is_some (find q) ≡ list_any (bytes_eq q) names
