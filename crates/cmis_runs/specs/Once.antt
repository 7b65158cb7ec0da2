-- What a run of the program in one thread does, by its words.
use Rattle.std.specs.Prelude.{◌≡◌, ℕ, List, Option, MatchBool, MatchOption}
use Rattle.cmis_spec.specs.Repository.{Repository}
use Rattle.desk_core.specs.Interleaving.{Rules}
use Rattle.outside.specs.Clocks.{Words}
use Rattle.outside.specs.Outside.{SourceTold, SinkTold}
use Rattle.schedule_run.specs.Events.{Asking}
use Rattle.talk.specs.Served.{Kind}
use Rattle.cmis_words.specs.Programs.{words_of}
use Rattle.cmis_words.specs.Loading.{load_of}
use Rattle.cmis_words.specs.Scheduling.{are_schedule}
use Rattle.cmis_runs.specs.Loads.{Loaded}
use Rattle.cmis_runs.specs.Runs.{Ran}
use Rattle.cmis_runs.specs.Schedules.{Schedules}

-- The words of a load read nothing, and write its line. Other words serve one session, or are none of the program's.
abbrev pub LoadsOrServes : {C Q : Type 0} → Kind Repository C Q → List (List ℕ) → Option Words → SourceTold → SinkTold → SourceTold → SinkTold → ℕ → Type 0
LoadsOrServes kind words clock before empty after full status =
    MatchOption (load_of words) (Ran kind (words_of words) clock before empty after full status) (λ n. (after ≡ before) × Loaded kind n empty full status)

-- the word of a schedule runs the script that the source gives
abbrev pub RunsOnce : {C Q W T A X : Type 0} → Kind Repository C Q → Rules Repository W T A X → Asking W T A X → List (List ℕ) → Option Words → SourceTold → SinkTold → SourceTold → SinkTold → ℕ → Type 0
RunsOnce kind rules asks words clock before empty after full status =
    MatchBool (are_schedule words) (Schedules rules asks before empty after full status) (LoadsOrServes kind words clock before empty after full status)
