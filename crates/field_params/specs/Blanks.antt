-- Blanks.
use Rattle.std.specs.Prelude.{ℕ, List, [], ◌∷◌, reverse, Bool, ◌||◌, ◌==◌, if◌then◌else◌}

-- a space or a tab
abbrev pub is_blank : ℕ → Bool
is_blank b = b == 32 || b == 9

-- a text without the blanks at its front
abbrev pub off_blanks : List ℕ → List ℕ
off_blanks [] = []
off_blanks (b ∷ bs) = if is_blank b then off_blanks bs else b ∷ bs

-- a text without the blanks at its end
abbrev pub off_end : List ℕ → List ℕ
off_end text = reverse (off_blanks (reverse text))

abbrev pub trimmed : List ℕ → List ℕ
trimmed text = off_end (off_blanks text)
