-- The program's words for a script: schedule.
use Rattle.std.specs.Prelude.{ℕ, Bool, false, List, [], ◌∷◌, codes, bytes_eq}

-- the words are schedule alone
abbrev pub are_schedule : List (List ℕ) → Bool
are_schedule [] = false
are_schedule (word ∷ []) = bytes_eq word (codes "schedule")
are_schedule (word ∷ other ∷ words) = false
