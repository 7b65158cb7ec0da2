-- The words of a clock.
use Rattle.std.specs.Prelude.{ℕ, ◌-◌, List, [], ◌∷◌, length, slice_index}

-- the words that a clock is still to give: these, and then the last one for ever
pub record Words : Type 0 where
  pub coming : List ℕ
  pub last : ℕ

-- the next word
abbrev pub first_word : Words → ℕ
first_word w = elim w.coming [ [] ↦ w.last | x ∷ xs ↦ x ]

-- the words after the next one
abbrev pub rest_words : Words → Words
rest_words w = record { coming = elim w.coming [ [] ↦ [] | x ∷ xs ↦ xs ]; last = w.last }

-- the last of a list, or 0 where there is none
abbrev pub last_of_list : List ℕ → ℕ
last_of_list list = slice_index list (length list - 1)

-- the words of a list, and then its last one for ever, or 0 if it is empty
abbrev pub words_of : List ℕ → Words
words_of list = record { coming = list; last = last_of_list list }
