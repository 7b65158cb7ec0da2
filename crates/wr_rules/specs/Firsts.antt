-- One more text, where it is not there yet.
use Rattle.std.specs.Prelude.{◌≡◌, ℕ, List, [], ◌∷◌, ◌++◌, bytes_eq, if◌then◌else◌}
use Rattle.std.specs.List.{list_any}
use Rattle.core.specs.Ordering.{nat_cmp}
use Rattle.core.specs.Cmp.Lexicographic.{slice_cmp}
use Rattle.cm_map.specs.Sets.{has_key}

abbrev pub with_first : List (List ℕ) → List ℕ → List (List ℕ)
with_first ts t = if list_any (bytes_eq t) ts then ts else ts ++ t ∷ []

-- the set has the texts of the list, and no other
abbrev pub HasAll : List (List ℕ) → List (List ℕ) → Type 0
HasAll list all = (t : List ℕ) → has_key (slice_cmp nat_cmp) t all ≡ list_any (bytes_eq t) list
