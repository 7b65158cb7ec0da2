use Rattle.std.proofs.Common.{rules, sym, subst, vec_len}
use Rattle.desk_serve.specs.Sessions.{terms}
use Rattle.desk_serve.specs.Keeping.{Keeps, held_by}
use Rattle.desk_serve.proofs.Lists.{held_none}
use Rattle.desk_serve.proofs.serving.work.Goals as goal

pub take_links-end-requires-clause-keeps : goal.take_links-end-requires-clause-keeps
take_links-end-requires-clause-keeps g c κs within = let h = c.args.hall.now in
    subst (λ v. Keeps (terms g.M.Machine.next g.M.Machine.answer g.M.Machine.number g.M.Served.call g.M.Served.user g.M.Served.least g.M.Served.closes g.K.Keeper.faults g.H.Link.Source.told g.H.Link.Sink.told c.args.users.now (g.H.Host.left v)) c.args.lock.now h.pass h.ended.items (held_by (λ r. r.place) h.running.items) (vec_len h.running) 0 0) (sym c.of-all.ensures)
    (subst (λ n. Keeps (terms g.M.Machine.next g.M.Machine.answer g.M.Machine.number g.M.Served.call g.M.Served.user g.M.Served.least g.M.Served.closes g.K.Keeper.faults g.H.Link.Source.told g.H.Link.Sink.told c.args.users.now (g.H.Host.left c.args.host.now)) c.args.lock.now h.pass h.ended.items (held_by (λ r. r.place) h.running.items) n 0 0) (sym c.requires.ready.none_run)
    (c.requires.ready.keeps (held_by (λ r. r.place) h.running.items) (held_none (λ r. r.place) h.running.items (search rules))))
