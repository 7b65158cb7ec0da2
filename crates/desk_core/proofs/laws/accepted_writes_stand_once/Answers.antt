use Rattle.desk_core.proofs.Runs.{run-adds}
use Rattle.desk_core.proofs.laws.accepted_writes_stand_once.Goals as goal

pub returns : goal.returns
returns g c = λ s w events l. run-adds (record { next = g.M.Machine.next; answer = g.M.Machine.answer; number = g.M.Machine.number }) w s events l
