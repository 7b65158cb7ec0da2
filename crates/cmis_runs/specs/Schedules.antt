-- The run of a script over the repository with the root alone.
use Rattle.std.specs.Prelude.{◌≡◌, ℕ}
use Rattle.cmis_spec.specs.Repository.{Repository}
use Rattle.desk_core.specs.Interleaving.{Rules}
use Rattle.outside.specs.Outside.{SourceTold, SinkTold}
use Rattle.schedule_run.specs.Events.{Asking}
use Rattle.schedule_run.specs.Runs.{Scheduled, world_at}
use Rattle.schedule_run.specs.declared.end.End.{End}
use Rattle.schedule_run.specs.declared.end.End.TheVariants.{Over, NotValid, ReadFault, WriteFault, Starved}
use Rattle.cmis_runs.specs.Loads.{beginning}

-- the status of an end
abbrev pub status_at : End → ℕ
status_at Over = 0
status_at ReadFault = 3
status_at WriteFault = 4
status_at (NotValid n) = 6
status_at Starved = 7

-- the script that the source gives is run, and the status is that of its end
abbrev pub Schedules : {C Q A X : Type 0} → Rules Repository C Q A X → Asking C Q A X → SourceTold → SinkTold → SourceTold → SinkTold → ℕ → Type 0
Schedules rules asks before empty after full status = (end : End) × (status ≡ status_at end) × Scheduled rules asks (world_at beginning) before empty after full end
