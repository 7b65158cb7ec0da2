-- Rows of blocks.
use Rattle.std.specs.Prelude.{ℕ, ◌+◌, ◌<◌, ◌≤◌, List, [], ◌∷◌, Option, None, Some}
use Rattle.core.specs.declared.cmp.Ordering.{Ordering}
use Rattle.core.specs.FinMap.Entries.{put}
use Rattle.cm_map.specs.Parts.{HeadIs, without_key}
use Rattle.cm_map.specs.Sizes.{full, few}

-- no block of these sizes is empty or more than full, and two neighbours have more than few together
abbrev pub Spaced : List ℕ → Type 0
Spaced [] = Unit {0}
Spaced (x ∷ xs) = (1 ≤ x) × (x ≤ full) × HeadIs (λ y. few < x + y) xs × Spaced xs

-- what f gives for the first
abbrev pub first_block : {B K : Type 0} → (B → Option K) → List B → Option K
first_block f [] = None
first_block f (b ∷ bs) = f b

-- the entries with a new one in place of the key's, or with none
abbrev pub change : {K X : Type 0} → (K → K → Ordering) → K → Option (K × X) → List (K × X) → List (K × X)
change R k None es = without_key R k es
change R k (Some e) es = put R k e.1 es
