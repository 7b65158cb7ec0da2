-- What the run of a script does.
use Rattle.std.specs.Prelude.{◌≡◌, ◌⊎◌, ℕ, true, false, List, [], ◌++◌, Option, Some, None}
use mathlib.Core.List.{IsPrefix}
use Rattle.desk_core.specs.declared.event.Event.{Event}
use Rattle.desk_core.specs.Interleaving.{Rules, World, happens, told}
use Rattle.http_reply.specs.Sent.{TookFront}
use Rattle.outside.specs.Outside.{SourceTold, SinkTold, Gave, Took, Rose}
use Rattle.schedule_lines.specs.Scripts.{script_of}
use Rattle.schedule_lines.specs.declared.step.Step.{Step}
use Rattle.schedule_run.specs.Events.{Asking}
use Rattle.schedule_run.specs.Printed.{line_of, printed, bad_line}
use Rattle.schedule_run.specs.declared.end.End.{End}
use Rattle.schedule_run.specs.declared.end.End.TheVariants.{Over, NotValid, ReadFault, WriteFault, Starved}

-- the world in which nothing has happened
abbrev pub world_at : {S C : Type 0} → S → World S C
world_at opening = record { opening = opening; base = 0; journal = []; held = [] }

-- all of the lines were taken, and then the message, or a front of it where the sink failed in this call
abbrev pub TookMessage : SinkTold → SinkTold → List ℕ → List ℕ → Type 0
TookMessage empty full lines message =
    Took empty full (lines ++ message)
    ⊎ (Rose empty.faults full.faults × ((front : List ℕ) × (rest : List ℕ) × (message ≡ front ++ rest) × Took empty full (lines ++ front)))

-- Of a run from a world on, by the text that the source gave in it.
-- Over: the source has ended, no line of the text is bad, and the lines of its steps were taken.
-- Not valid: the n-th line is the first bad one, the lines of the steps before it were taken, and then the message.
-- The source failed in this call: no line that the text has whole is bad, and the lines of their steps were taken.
-- The sink failed in this call: only a front of the lines was taken. Memory was wanted: the lines of the first steps were taken.
abbrev pub Ends : {S C Q A X : Type 0} → Rules S C Q A X → Asking C Q A X → World S C → List ℕ → SourceTold → SinkTold → SourceTold → SinkTold → End → Type 0
Ends m a w text before empty after full Over =
    (after.ended ≡ true) × ((script_of true text).bad ≡ None) × Took empty full (printed m a w (script_of true text).steps)
Ends m a w text before empty after full (NotValid n) =
    ((script_of after.ended text).bad ≡ Some n) × TookMessage empty full (printed m a w (script_of after.ended text).steps) (bad_line n)
Ends m a w text before empty after full ReadFault =
    Rose before.faults after.faults × ((script_of false text).bad ≡ None) × Took empty full (printed m a w (script_of false text).steps)
Ends m a w text before empty after full WriteFault =
    Rose empty.faults full.faults × TookFront empty full (printed m a w (script_of after.ended text).steps)
Ends m a w text before empty after full Starved =
    (done : List Step) × IsPrefix done (script_of after.ended text).steps × Took empty full (printed m a w done)

-- the run of the script that a source gives
pub record Scheduled {S C Q A X : Type 0} (m : Rules S C Q A X) (a : Asking C Q A X) (w : World S C) (before : SourceTold) (empty : SinkTold) (after : SourceTold) (full : SinkTold) (end : End) : Type 0 where
  pub text : List ℕ
  pub gave : Gave before after text
  pub ends : Ends m a w text before empty after full end

-- ---- within a run

-- of one step, by its session and its event: it was made and its line taken, or the run ends
abbrev pub Performs : {S C Q A X : Type 0} → Rules S C Q A X → Asking C Q A X → ℕ → Event C Q → World S C → World S C → SinkTold → SinkTold → Option End → Type 0
Performs m a k event w v empty full None = (v ≡ happens m w event) × Took empty full (line_of a k (told m w event))
Performs m a k event w v empty full (Some WriteFault) = Rose empty.faults full.faults × TookFront empty full (line_of a k (told m w event))
Performs m a k event w v empty full (Some Starved) = full ≡ empty
Performs m a k event w v empty full (Some Over) = ⊥
Performs m a k event w v empty full (Some (NotValid n)) = ⊥
Performs m a k event w v empty full (Some ReadFault) = ⊥

-- of the message for a line that is not valid
abbrev pub Refuses : ℕ → SinkTold → SinkTold → End → Type 0
Refuses n empty full (NotValid k) = (k ≡ n) × (Took empty full (bad_line n) ⊎ (Rose empty.faults full.faults × TookFront empty full (bad_line n)))
Refuses n empty full Starved = full ≡ empty
Refuses n empty full Over = ⊥
Refuses n empty full ReadFault = ⊥
Refuses n empty full WriteFault = ⊥
