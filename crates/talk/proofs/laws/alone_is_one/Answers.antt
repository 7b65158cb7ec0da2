use Rattle.talk.proofs.OneAlone.{alone-one}
use Rattle.talk.proofs.laws.alone_is_one.Goals as goal

pub returns : goal.returns
returns g c = λ wire call opening users words input o p end stop f h a b.
    alone-one (record { next = g.M.Machine.next; answer = g.M.Machine.answer; number = g.M.Machine.number; call = call; wire = wire }) opening users words input o p end stop f h
    (record { one = c.first_is_one.ensures; within = c.request_lies_within.ensures }) a b
