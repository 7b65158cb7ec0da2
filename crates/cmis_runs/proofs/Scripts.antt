-- The run of a script: its status, and what a failure of one side says of it.
use Rattle.std.specs.Prelude.{◌≡◌, ◌==◌, ℕ, true, false, List, Option}
use Rattle.std.proofs.Common.{refl, sym, subst, ◌∙◌}
use Rattle.std.proofs.lemmas.Bool.{le-leb}
use Rattle.cmis_spec.specs.Repository.{Repository}
use Rattle.outside.specs.Clocks.{Words}
use Rattle.outside.specs.Outside.{SourceTold, SinkTold}
use Rattle.desk_core.specs.Interleaving.{Rules}
use Rattle.schedule_run.specs.Events.{Asking}
use Rattle.talk.specs.Served.{Kind}
use Rattle.schedule_run.proofs.Begun.{not_begun}
use Rattle.schedule_run.specs.Runs.{Scheduled, world_at}
use Rattle.schedule_run.specs.declared.end.End.{End}
use Rattle.schedule_run.specs.declared.end.End.TheVariants.{Over, NotValid, ReadFault, WriteFault, Starved}
use Rattle.cmis_words.specs.Scheduling.{are_schedule}
use Rattle.cmis_runs.specs.Loads.{beginning}
use Rattle.cmis_runs.specs.Once.{LoadsOrServes, RunsOnce}
use Rattle.run_status.specs.Status.{OnlyWhereFailed}
use Rattle.cmis_runs.specs.Schedules.{status_at, Schedules}
use Rattle.run_status.proofs.Failed.{apart}

-- a run from the beginning
pub begun : {C Q A X : Type 0} (rules : Rules Repository C Q A X) (asks : Asking C Q A X) (opening : Repository) (before : SourceTold) (empty : SinkTold) (after : SourceTold) (full : SinkTold) (end : End) (status : ℕ)
    → opening ≡ beginning → Scheduled rules asks (world_at opening) before empty after full end → status ≡ status_at end → Schedules rules asks before empty after full status
begun rules asks opening before empty after full end status same run is =
    (end, is, subst (λ r. Scheduled rules asks (world_at r) before empty after full end) same run)

-- where memory was wanted before the run, nothing was read or written
pub starved : {C Q A X : Type 0} (rules : Rules Repository C Q A X) (asks : Asking C Q A X) (before : SourceTold) (empty : SinkTold) → Schedules rules asks before empty before empty 7
starved rules asks before empty = (Starved, refl, not_begun rules asks (world_at beginning) before empty)

-- a script ends with 3 or 4 only where the failure of that side was counted
pub schedule_failed : {C Q A X : Type 0} (rules : Rules Repository C Q A X) (asks : Asking C Q A X) (before : SourceTold) (empty : SinkTold) (after : SourceTold) (full : SinkTold) (status : ℕ) → Schedules rules asks before empty after full status → OnlyWhereFailed before empty after full status
schedule_failed rules asks before empty after full status (Over, is, run) = record {
  input = λ e. apart (λ n. n == 0) 0 3 refl refl (sym is ∙ e);
  output = λ e. apart (λ n. n == 0) 0 4 refl refl (sym is ∙ e);
}
schedule_failed rules asks before empty after full status (ReadFault, is, run) = record {
  input = λ e. le-leb _ _ run.ends.0;
  output = λ e. apart (λ n. n == 3) 3 4 refl refl (sym is ∙ e);
}
schedule_failed rules asks before empty after full status (WriteFault, is, run) = record {
  input = λ e. apart (λ n. n == 4) 4 3 refl refl (sym is ∙ e);
  output = λ e. le-leb _ _ run.ends.0;
}
schedule_failed rules asks before empty after full status (NotValid line, is, run) = record {
  input = λ e. apart (λ n. n == 6) 6 3 refl refl (sym is ∙ e);
  output = λ e. apart (λ n. n == 6) 6 4 refl refl (sym is ∙ e);
}
schedule_failed rules asks before empty after full status (Starved, is, run) = record {
  input = λ e. apart (λ n. n == 7) 7 3 refl refl (sym is ∙ e);
  output = λ e. apart (λ n. n == 7) 7 4 refl refl (sym is ∙ e);
}

pub runs_schedule : {C Q W T A X : Type 0} (kind : Kind Repository C Q) (rules : Rules Repository W T A X) (asks : Asking W T A X) (words : List (List ℕ)) (clock : Option Words) (before : SourceTold) (empty : SinkTold) (after : SourceTold) (full : SinkTold) (status : ℕ) → are_schedule words ≡ true → Schedules rules asks before empty after full status → RunsOnce kind rules asks words clock before empty after full status
runs_schedule kind rules asks words clock before empty after full status e h = rw e h

pub runs_other : {C Q W T A X : Type 0} (kind : Kind Repository C Q) (rules : Rules Repository W T A X) (asks : Asking W T A X) (words : List (List ℕ)) (clock : Option Words) (before : SourceTold) (empty : SinkTold) (after : SourceTold) (full : SinkTold) (status : ℕ) → are_schedule words ≡ false → LoadsOrServes kind words clock before empty after full status → RunsOnce kind rules asks words clock before empty after full status
runs_other kind rules asks words clock before empty after full status e h = rw e h
