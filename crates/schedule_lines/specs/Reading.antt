-- What a reader of a script has given, by all that its source gave to it.
use Rattle.std.specs.Prelude.{◌≡◌, ◌⊎◌, ℕ, ◌+◌, ◌<◌, ◌≤◌, Bool, true, false, ◌||◌, nat_lt, List, [], ◌∷◌, ◌++◌, length, Option, Some, None, Result, Ok, Err}
use Rattle.std.specs.List.{list_any, before_first, after_first}
use Rattle.outside.specs.Outside.{SourceTold, Gave, Rose}
use mathlib.Core.List.{IsPrefix}
use Rattle.schedule_lines.specs.Limits.{most_lines, longest_line}
use Rattle.schedule_lines.specs.Lines.{asked_by}
use Rattle.schedule_lines.specs.Scripts.{is_line_feed, lines_of, behind, script_from, script_of}
use Rattle.schedule_lines.specs.declared.step.Step.{Step}
use Rattle.schedule_lines.specs.declared.ahead.ReadStop.{ReadStop}
use Rattle.schedule_lines.specs.declared.ahead.ReadStop.TheVariants as reads
use Rattle.schedule_lines.specs.declared.reader.ScriptStop.{ScriptStop}
use Rattle.schedule_lines.specs.declared.reader.ScriptStop.TheVariants.{NotValid, ReadFault, Memory}

-- a reader: the number of its next line, the bytes of the source that stand in no line before it, and whether no more of them come
pub record Reading : Type 0 where
  pub number : ℕ
  pub ahead : List ℕ
  pub over : Bool

-- no line was read, and no byte
abbrev pub unread : Reading
unread = record { number = 1; ahead = []; over = false }

-- Where the source gave this text and these steps were read of it, the reader stands behind them: whatever bytes come, the script of all
-- has these steps and then those of what is ahead.
pub record StandsBehind (text : List ℕ) (steps : List Step) (r : Reading) (ended : Bool) : Type 0 where
  pub over : r.over ≡ true → ended ≡ true
  pub goes_on : (more : List ℕ) (over : Bool) → (r.over ≡ true → (more ≡ []) × (over ≡ true))
      → script_of over (text ++ more) ≡ behind steps (script_from r.number (lines_of over (r.ahead ++ more)))

-- the script of a text has these steps at its front
abbrev pub HasSteps : Bool → List ℕ → List Step → Type 0
HasSteps over text steps = IsPrefix steps (script_of over text).steps

-- Of a call, by the text that the source has given in all, and the steps that were read before.
-- A step: it is the script's next one. None: the source has ended, and the script of the text has no other steps and no bad line.
-- A line that is not valid is the script's bad one. Where the source failed, all whole lines of the text were read, and they are valid.
abbrev pub Answers : List ℕ → List Step → Reading → Reading → SourceTold → SourceTold → Result (Option Step) ScriptStop → Type 0
Answers text steps old new before after (Ok (Some step)) =
    StandsBehind text (steps ++ step ∷ []) new after.ended × HasSteps after.ended text (steps ++ step ∷ [])
    × (old.number ≤ most_lines) × (new.number ≡ old.number + 1)
Answers text steps old new before after (Ok None) = (after.ended ≡ true) × (script_of true text ≡ record { steps = steps; bad = None })
Answers text steps old new before after (Err (NotValid n)) = script_of after.ended text ≡ record { steps = steps; bad = Some n }
Answers text steps old new before after (Err ReadFault) = Rose before.faults after.faults × (script_of false text ≡ record { steps = steps; bad = None })
Answers text steps old new before after (Err Memory) = HasSteps after.ended text steps

-- the call had the source give these bytes
pub record ReadsOn (given : List ℕ) (steps : List Step) (old new : Reading) (before after : SourceTold) (result : Result (Option Step) ScriptStop) : Type 0 where
  pub got : List ℕ
  pub gave : Gave before after got
  pub answers : Answers (given ++ got) steps old new before after result

-- ---- within a call

-- one read: the bytes that came, or the end
abbrev pub More : List ℕ → List ℕ → SourceTold → SourceTold → Result Bool ReadStop → Type 0
More old new before after (Ok true) = (got : List ℕ) × (new ≡ old ++ got) × (0 < length got) × Gave before after got
More old new before after (Ok false) = (new ≡ old) × (after.ended ≡ true) × Gave before after []
More old new before after (Err reads.Fault) = (new ≡ old) × Rose before.faults after.faults × Gave before after []
More old new before after (Err reads.Memory) = (got : List ℕ) × Gave before after got

-- a line stands whole at the front, or is too long already
abbrev pub has_line : List ℕ → Bool
has_line ahead = list_any is_line_feed ahead || nat_lt longest_line (length ahead)

-- bytes of the source came behind those that are ahead
pub record Fed (old new : Reading) (before after : SourceTold) : Type 0 where
  pub got : List ℕ
  pub gave : Gave before after got
  pub ahead_is : new.ahead ≡ old.ahead ++ got
  pub number_is : new.number ≡ old.number

-- of the reads for a line: it is there, or no more bytes come
abbrev pub Fills : Reading → Reading → SourceTold → SourceTold → Result (Unit {0}) ScriptStop → Type 0
Fills old new before after (Ok u) = Fed old new before after × (((has_line new.ahead ≡ true) × (new.over ≡ false)) ⊎ ((new.over ≡ true) × (after.ended ≡ true)))
Fills old new before after (Err ReadFault) = Fed old new before after × (has_line new.ahead ≡ false) × (new.over ≡ false) × Rose before.faults after.faults
Fills old new before after (Err Memory) = (got : List ℕ) × Gave before after got
Fills old new before after (Err (NotValid n)) = ⊥

-- the reader, after the line at the front was taken
abbrev pub beyond : Reading → Reading
beyond r = record { number = r.number + 1; ahead = after_first is_line_feed r.ahead; over = r.over }

-- of the line at the front
abbrev pub Takes : Reading → Reading → Result (Option Step) ScriptStop → Type 0
Takes old new (Ok (Some step)) = (0 < length old.ahead) × (asked_by old.number (before_first is_line_feed old.ahead) ≡ Some step) × (new ≡ beyond old)
Takes old new (Ok None) = length old.ahead ≡ 0
Takes old new (Err (NotValid n)) = (0 < length old.ahead) × (asked_by old.number (before_first is_line_feed old.ahead) ≡ None) × (n ≡ old.number)
Takes old new (Err ReadFault) = ⊥
Takes old new (Err Memory) = Unit {0}
