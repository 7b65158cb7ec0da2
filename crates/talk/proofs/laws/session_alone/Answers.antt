use Rattle.talk.proofs.FromSession.{session-given}
use Rattle.talk.proofs.laws.session_alone.Goals as goal

pub returns : goal.returns
returns g c = λ wire call opening users words rest after h input over output times read_failed write_failed end s mine gives final.
    session-given (record { next = g.M.Machine.next; answer = g.M.Machine.answer; number = g.M.Machine.number; call = call; wire = wire }) opening users after h input over output times read_failed write_failed end words rest s mine gives final
