-- The beginning of a run.
use Rattle.std.proofs.Common.{◌≡◌, [], refl, subst, arith}
use Rattle.desk_core.specs.Interleaving.{Rules, World}
use Rattle.outside.specs.Outside.{SourceTold, SinkTold}
use Rattle.outside.proofs.Known.{Gave-none, Took-none}
use Rattle.schedule_lines.specs.Scripts.{script_of}
use Rattle.schedule_run.specs.Events.{Asking}
use Rattle.schedule_run.specs.Runs.{Scheduled}
use Rattle.schedule_run.specs.declared.end.End.{End}
use Rattle.schedule_run.specs.declared.end.End.TheVariants.{Starved}

module _ {S C Q A X : Type 0} (m : Rules S C Q A X) (a : Asking C Q A X) where
  -- a run from the same world
  pub run_from : (w v : World S C) (before : SourceTold) (empty : SinkTold) (after : SourceTold) (full : SinkTold) (end : End) → v ≡ w → Scheduled m a v before empty after full end → Scheduled m a w before empty after full end
  run_from w v before empty after full end same run = subst (λ x. Scheduled m a x before empty after full end) same run

  -- where memory was wanted before the run, nothing was read or written
  pub not_begun : (w : World S C) (before : SourceTold) (empty : SinkTold) → Scheduled m a w before empty before empty Starved
  not_begun w before empty = record {
    text = [];
    gave = Gave-none before before refl refl (omega arith);
    ends = ([], ((script_of before.ended []).steps, refl), Took-none empty empty refl (omega arith));
  }
