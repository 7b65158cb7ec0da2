-- What the backslashes of a text stand for: `\'` and `\\` are one byte, `\%` and `\_` are both bytes.
use Rattle.std.specs.Prelude.{ℕ, Bool, true, false, ◌||◌, ◌==◌, List, [], ◌∷◌, if◌then◌else◌}
use Rattle.std.specs.List.{flat_map}

-- The bytes that a text stands for; `escaped` says that a backslash stands before it.
abbrev pub unescaped : Bool → List ℕ → List ℕ
unescaped escaped [] = []
unescaped false (b ∷ bs) = if b == 92 then unescaped true bs else b ∷ unescaped false bs
unescaped true (b ∷ bs) = if b == 37 || b == 95 then 92 ∷ b ∷ unescaped false bs else b ∷ unescaped false bs

-- A quote or a backslash.
abbrev pub is_special : ℕ → Bool
is_special b = b == 39 || b == 92

abbrev pub escaped_byte : ℕ → List ℕ
escaped_byte b = if is_special b then 92 ∷ b ∷ [] else b ∷ []

-- How bytes are written in a text: a backslash stands before each quote and each backslash.
abbrev pub escaped : List ℕ → List ℕ
escaped = flat_map escaped_byte
