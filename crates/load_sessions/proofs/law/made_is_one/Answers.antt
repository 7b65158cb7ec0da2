use Rattle.talk.specs.Served.{wire_of}
use Rattle.load_sessions.proofs.One.{made_one}
use Rattle.load_sessions.proofs.law.made_is_one.Goals as goal

pub returns : goal.returns
returns g c users opening n k s t a b =
    let wire = wire_of g.M.Served.user g.M.Served.least g.M.Served.closes in
    made_one (record { next = g.M.Machine.next; answer = g.M.Machine.answer; number = g.M.Machine.number; call = g.M.Served.call; wire = wire })
    (c.alone_is_one.ensures wire g.M.Served.call)
    users opening n k s t a b
