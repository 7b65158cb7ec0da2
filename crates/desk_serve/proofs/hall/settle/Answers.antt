use Rattle.desk_serve.specs.Sessions.{terms}
use Rattle.desk_serve.proofs.Noting.{held_of}
use Rattle.desk_serve.proofs.hall.settle.Goals as goal

pub note-requires-clause-held : goal.note-requires-clause-held
note-requires-clause-held g c = let p = c.args.row.handle.promise in let s = c.join-seat.result in
    held_of (terms g.M.Machine.next g.M.Machine.answer g.M.Machine.number g.M.Served.call g.M.Served.user g.M.Served.least g.M.Served.closes g.K.Keeper.faults g.H.Link.Source.told g.H.Link.Sink.told c.args.users.now (g.H.Host.left c.args.all.now.value)) c.args.lock.now p.lock.value p.users.value p.pass.value p.link.value c.args.row.place c.args.row.before s.pass s.link s.outcome c.requires.runs c.join-seat.ensures
