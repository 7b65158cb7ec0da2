-- Blanks at the end of a text.
use Rattle.std.proofs.Common.{◌≡◌, ℕ, List, [], ◌∷◌, ◌++◌, reverse, true, false, refl, sym, ap, ◌∙◌}
use Rattle.std.proofs.lemmas.List.{reverse-append, reverse-reverse}
use Rattle.field_params.specs.Blanks.{is_blank, off_end}

last_first : (xs : List ℕ) (b : ℕ) → reverse (xs ++ b ∷ []) ≡ b ∷ reverse xs
last_first xs b = reverse-append xs (b ∷ [])

pub off_end-blank : (xs : List ℕ) (b : ℕ) → is_blank b ≡ true → off_end (xs ++ b ∷ []) ≡ off_end xs
off_end-blank xs b e = rw (last_first xs b, e) refl

pub off_end-other : (xs : List ℕ) (b : ℕ) → is_blank b ≡ false → off_end (xs ++ b ∷ []) ≡ xs ++ b ∷ []
off_end-other xs b e = rw (last_first xs b, e) (ap reverse (sym (last_first xs b)) ∙ reverse-reverse (xs ++ b ∷ []))
