-- How the repositories of runs start.
use Rattle.std.specs.Prelude.{ℕ}
use Rattle.cm_base.specs.declared.number.Moment.{Moment}
use Rattle.cm_base.specs.declared.limits.Start.{Start}
use Rattle.cm_base.specs.Limits.{usual_limits}

-- at this moment, with this step number, under the usual limits
abbrev pub start_at : Moment → ℕ → Start
start_at root from = record { moment = root; first_step = from; limits = usual_limits }
