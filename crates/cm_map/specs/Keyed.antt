-- Lists as maps from the numbers of their members.
use Rattle.std.specs.Prelude.{ℕ, ◌<◌, List, [], ◌∷◌, map, All}

-- each member behind its number
abbrev pub keyed : {V : Type 0} → (V → ℕ) → List V → List (ℕ × V)
keyed number xs = map (λ x. (number x, x)) xs

-- the numbers rise
abbrev pub Rises : {V : Type 0} → (V → ℕ) → List V → Type 0
Rises number [] = Unit {0}
Rises number (x ∷ xs) = All (λ y. number x < number y) xs × Rises number xs
