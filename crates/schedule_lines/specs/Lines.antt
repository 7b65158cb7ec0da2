-- The lines of a script: `open K`, `write K NAME`, `look K` and `ask K`.
use Rattle.std.specs.Prelude.{◌≡◌, ℕ, ◌==◌, nat_le, Bool, ◌&&◌, ◌||◌, List, [], ◌∷◌, length, codes, bytes_eq, Option, Some, None, Result, Ok, Err, if◌then◌else◌}
use Rattle.std.specs.Int.{is_in_range}
use Rattle.std.specs.List.{list_all, slice_split}
use Rattle.cm_base.specs.Decimals.{decimal_u64}
use Rattle.schedule_lines.specs.Limits.{most_lines, longest_line}
use Rattle.schedule_lines.specs.declared.step.Act.{Act}
use Rattle.schedule_lines.specs.declared.step.Act.TheVariants.{Open, Write, Look, Ask}
use Rattle.schedule_lines.specs.declared.step.Step.{Step}
use Rattle.schedule_lines.specs.declared.line.LineStop.{LineStop}
use Rattle.schedule_lines.specs.declared.line.LineStop.TheVariants as stops

abbrev pub is_blank : ℕ → Bool
is_blank b = b == 32

-- K: a number from 1 to 1000, decimal without a sign or a leading zero
abbrev pub numbered : Option ℕ → Option ℕ
numbered None = None
numbered (Some n) = if nat_le 1 n && nat_le n 1000 then Some n else None

abbrev pub session_of : List ℕ → Option ℕ
session_of word = numbered (decimal_u64 word)

abbrev pub is_letter_or_digit : ℕ → Bool
is_letter_or_digit b = is_in_range 97 122 b || is_in_range 65 90 b || is_in_range 48 57 b

-- NAME: 1 to 255 letters and digits
abbrev pub has_name_length : List ℕ → Bool
has_name_length name = nat_le 1 (length name) && nat_le (length name) 255

abbrev pub is_name : List ℕ → Bool
is_name name = has_name_length name && list_all is_letter_or_digit name

-- what the session is to do: by a word alone, and by a word and a name
abbrev pub act_of : List ℕ → Option Act
act_of word =
    if bytes_eq word (codes "open") then Some Open
    else if bytes_eq word (codes "look") then Some Look
    else if bytes_eq word (codes "ask") then Some Ask
    else None

abbrev pub write_of : List ℕ → List ℕ → Option Act
write_of word name = if bytes_eq word (codes "write") && is_name name then Some (Write name) else None

abbrev pub step_by : Option ℕ → Option Act → Option Step
step_by None act = None
step_by (Some k) None = None
step_by (Some k) (Some act) = Some (record { session = k; act = act })

-- open K, look K, ask K, write K NAME
abbrev pub step_of : List (List ℕ) → Option Step
step_of [] = None
step_of (word ∷ []) = None
step_of (word ∷ k ∷ []) = step_by (session_of k) (act_of word)
step_of (word ∷ k ∷ name ∷ []) = step_by (session_of k) (write_of word name)
step_of (word ∷ k ∷ name ∷ other ∷ words) = None

-- within the bounds: the line's number, counted from 1, and its length
abbrev pub is_within : ℕ → List ℕ → Bool
is_within n line = nat_le n most_lines && nat_le (length line) longest_line

-- what the n-th line asks for, without its line feed: words with one blank between them
abbrev pub asked_by : ℕ → List ℕ → Option Step
asked_by n line = if is_within n line then step_of (slice_split is_blank line) else None

-- what is read is what is there; not valid exactly where nothing is; want of memory is free
abbrev pub Reads : {A : Type 0} → Result A LineStop → Option A → Type 0
Reads (Ok a) due = due ≡ Some a
Reads (Err stops.NotValid) due = due ≡ None
Reads (Err stops.Memory) due = Unit {0}
