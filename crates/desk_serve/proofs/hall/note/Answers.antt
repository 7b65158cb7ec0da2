use Rattle.desk_serve.specs.Sessions.{terms}
use Rattle.desk_serve.proofs.Noting.{noted_one}
use Rattle.desk_serve.proofs.hall.note.Goals as goal

pub returns-clause-keeps : goal.returns-clause-keeps
returns-clause-keeps g c = λ held running spare n. noted_one (terms g.M.Machine.next g.M.Machine.answer g.M.Machine.number g.M.Served.call g.M.Served.user g.M.Served.least g.M.Served.closes g.K.Keeper.faults g.H.Link.Source.told g.H.Link.Sink.told c.args.users.now (g.H.Host.left c.args.all.now.value)) c.args.lock.now
    c.args.hall.now.pass c.args.seat.pass c.retire-tally.new.keep c.args.hall.now.ended.items c.push_reserved.new.self.items _ held running spare n
    c.requires.held c.retire-tally.ensures.tally.0 c.retire-tally.ensures.tally.1 c.retire-tally.ensures.is_of c.retire-tally.ensures.retired c.push_reserved.ensures.items
