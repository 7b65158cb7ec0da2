-- Entries of a map whose keys are the names of their values.
use Rattle.std.specs.Prelude.{◌≡◌, ℕ, List, [], ◌∷◌, map}

abbrev pub IsKeyed : {X : Type 0} → (X → List ℕ) → List (List ℕ × X) → Type 0
IsKeyed name [] = Unit {0}
IsKeyed name (e ∷ es) = (e.0 ≡ name e.1) × IsKeyed name es

-- the values in the order of their keys
abbrev pub values_of : {X : Type 0} → List (List ℕ × X) → List X
values_of es = map (λ e. e.1) es
