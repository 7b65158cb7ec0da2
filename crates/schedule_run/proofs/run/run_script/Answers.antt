use Rattle.schedule_run.proofs.Begun.{run_from, not_begun}
use Rattle.schedule_run.proofs.run.run_script.Goals as goal

pub returns-in-Ok : goal.returns-in-Ok
returns-in-Ok g c = run_from _ _ _ _ _ _ _ _ c.run_lines.result c.in-Ok.ensures c.run_lines.ensures

pub returns-in-Err : goal.returns-in-Err
returns-in-Err g c = not_begun _ _ _ _ _
