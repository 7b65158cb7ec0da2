use Rattle.desk_core.proofs.Runs.{run-lawful}
use Rattle.desk_core.proofs.laws.run_is_lawful.Goals as goal

pub returns : goal.returns
returns g c = run-lawful (record { next = g.M.Machine.next; answer = g.M.Machine.answer; number = g.M.Machine.number })
