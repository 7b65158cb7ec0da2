-- The values of the fields with one name, as a head answers them.
use Rattle.std.specs.Prelude.{◌≡◌, ℕ, List, [], ◌∷◌}
use Rattle.http_wire.specs.declared.head.Named.{Named}
use Rattle.http_wire.specs.declared.head.Named.TheVariants as named

-- no value, one, or several
abbrev pub IsNamed : List (List ℕ) → Named → Type 0
IsNamed values named.Absent = values ≡ []
IsNamed values (named.One value) = values ≡ value.now ∷ []
IsNamed values named.Several = (a : List ℕ) × (b : List ℕ) × (rest : List (List ℕ)) × (values ≡ a ∷ b ∷ rest)
