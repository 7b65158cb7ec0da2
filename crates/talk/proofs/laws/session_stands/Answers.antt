use Rattle.talk.proofs.Longer.{session-longer}
use Rattle.talk.proofs.laws.session_stands.Goals as goal

pub returns : goal.returns
returns g c = λ wire call at after f h input over output times read_failed write_failed end s pre same.
    session-longer (record { next = g.M.Machine.next; answer = g.M.Machine.answer; number = g.M.Machine.number; call = call; wire = wire }) at after f h input over output times read_failed write_failed end s pre same
