-- The parts of a body as a function.
use Rattle.std.specs.Prelude.{ℕ, ◌-◌, List, [], ◌∷◌, ◌++◌, length, take, drop, Bool, false, ◌&&◌, ◌==◌, Option, Some, None, option_map, if◌then◌else◌}
use Rattle.form_parts.specs.declared.mark.Mark.{Mark}
use Rattle.form_parts.specs.declared.mark.Mark.TheVariants.{Plain, Open, Last}
use Rattle.form_parts.specs.Lines.{ended}
use Rattle.form_parts.specs.Marks.{mark_of}

abbrev pub begins_crlf : List ℕ → Bool
begins_crlf [] = false
begins_crlf (x ∷ []) = false
begins_crlf (x ∷ (y ∷ ys)) = (x == 13) && (y == 10)

abbrev pub onto_first : ℕ → List (List ℕ) → List (List ℕ)
onto_first x [] = (x ∷ []) ∷ []
onto_first x (l ∷ ls) = (x ∷ l) ∷ ls

abbrev pub off_first : List (List ℕ) → List (List ℕ)
off_first [] = []
off_first (l ∷ ls) = drop 1 l ∷ ls

-- the lines of a text
unfoldable pub lines_of : List ℕ → List (List ℕ)
lines_of [] = [] ∷ []
lines_of (x ∷ xs) = if begins_crlf (x ∷ xs) then [] ∷ off_first (lines_of xs) else onto_first x (lines_of xs)

-- the part of these lines, if it has one, before others
abbrev pub closed : List (List ℕ) → Option (List (List ℕ)) → Option (List (List ℕ))
closed [] parts = None
closed (l ∷ ls) parts = option_map (λ ps. take (length (ended (l ∷ ls)) - 2) (ended (l ∷ ls)) ∷ ps) parts

-- the parts where these lines are held and those are left
unfoldable pub inside : List ℕ → List (List ℕ) → List (List ℕ) → Option (List (List ℕ))
inside b held [] = None
inside b held (l ∷ ls) = elim (mark_of b l) [
  | Plain ↦ inside b (held ++ l ∷ []) ls
  | Open ↦ closed held (inside b [] ls)
  | Last ↦ closed held (Some [])
]

-- the parts of lines before the first delimiter
unfoldable pub outside : List ℕ → List (List ℕ) → Option (List (List ℕ))
outside b [] = None
outside b (l ∷ ls) = elim (mark_of b l) [
  | Plain ↦ outside b ls
  | Open ↦ inside b [] ls
  | Last ↦ Some []
]

-- the parts of a body: what stands before the first delimiter and behind the last is dropped
abbrev pub split_of : List ℕ → List ℕ → Option (List (List ℕ))
split_of b body = outside b (lines_of body)

-- the parts after a delimiter, of the lines from a place on
abbrev pub parts_after : List ℕ → List ℕ → Mark → ℕ → Option (List (List ℕ))
parts_after b body Plain place = None
parts_after b body Open place = inside b [] (lines_of (drop place body))
parts_after b body Last place = Some []

-- the part between two places, less its last line end, before others
abbrev pub part_before : List ℕ → ℕ → ℕ → Option (List (List ℕ)) → Option (List (List ℕ))
part_before body from place parts = if from == place then None else option_map (λ ps. take (place - 2 - from) (drop from body) ∷ ps) parts
