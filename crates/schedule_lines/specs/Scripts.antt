-- Scripts: the lines of a text, and the steps that they ask for.
use Rattle.std.specs.Prelude.{ℕ, ◌+◌, ◌==◌, nat_lt, Bool, ◌||◌, List, [], ◌∷◌, ◌++◌, length, Option, Some, None, if◌then◌else◌}
use Rattle.std.specs.List.{slice_split}
use Rattle.schedule_lines.specs.Limits.{longest_line}
use Rattle.schedule_lines.specs.Lines.{asked_by}
use Rattle.schedule_lines.specs.declared.step.Step.{Step}

abbrev pub is_line_feed : ℕ → Bool
is_line_feed b = b == 10

-- What stands behind the last line feed is a line once the text is over, which a text may be without a line feed at its end.
-- Before that it is one only where it is too long already. Nothing is no line.
abbrev pub last_line : Bool → List ℕ → List (List ℕ)
last_line over [] = []
last_line over (b ∷ bs) = if over || nat_lt longest_line (length (b ∷ bs)) then (b ∷ bs) ∷ [] else []

abbrev pub lines_in : Bool → List (List ℕ) → List (List ℕ)
lines_in over [] = []
lines_in over (piece ∷ []) = last_line over piece
lines_in over (piece ∷ next ∷ pieces) = piece ∷ lines_in over (next ∷ pieces)

-- the lines of a text, of which more may come where it is not over
abbrev pub lines_of : Bool → List ℕ → List (List ℕ)
lines_of over text = lines_in over (slice_split is_line_feed text)

-- the steps of the lines before the first bad one, and the number of that one, counted from 1
pub record Script : Type 0 where
  pub steps : List Step
  pub bad : Option ℕ

-- a script with these steps before it
abbrev pub behind : List Step → Script → Script
behind steps s = record { steps = steps ++ s.steps; bad = s.bad }

abbrev pub with_line : ℕ → Option Step → Script → Script
with_line n None s = record { steps = []; bad = Some n }
with_line n (Some step) s = behind (step ∷ []) s

-- the script of the lines from the n-th on
abbrev pub script_from : ℕ → List (List ℕ) → Script
script_from n [] = record { steps = []; bad = None }
script_from n (line ∷ lines) = with_line n (asked_by n line) (script_from (n + 1) lines)

abbrev pub script_of : Bool → List ℕ → Script
script_of over text = script_from 1 (lines_of over text)
