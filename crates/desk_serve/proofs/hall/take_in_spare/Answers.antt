use Rattle.std.proofs.Common.{rules, subst}
use Rattle.desk_serve.specs.Sessions.{terms}
use Rattle.desk_serve.specs.Keeping.{IsStopped, held_by}
use Rattle.desk_serve.proofs.Lists.{held_none}
use Rattle.desk_serve.proofs.Ending.{over, over_with}
use Rattle.desk_serve.proofs.hall.take_in_spare.Goals as goal

pub returns-in-Some : goal.returns-in-Some
returns-in-Some g c = let t = (terms g.M.Machine.next g.M.Machine.answer g.M.Machine.number g.M.Served.call g.M.Served.user g.M.Served.least g.M.Served.closes g.K.Keeper.faults g.H.Link.Source.told g.H.Link.Sink.told c.args.users.now (g.H.Host.left c.args.all.now.value)) in let host = g.H.Host.told c.args.all.now.value in let host' = g.H.Host.told c.args.host.now in let left' = g.H.Host.left c.args.host.now in let h = c.args.hall.now in
    over_with t c.args.lock.now h.pass c.in-Some.pass c.retire.new.keep h.ended.items (held_by (λ r. r.place) h.running.items) host host' left' c.args.end (held_none (λ r. r.place) h.running.items (search rules))
    (subst (λ s. IsStopped t c.args.lock.now h.pass h.ended.items (held_by (λ r. r.place) h.running.items) 0 host host' left' s c.args.end) c.in-Some.is
    (subst (λ n. IsStopped t c.args.lock.now h.pass h.ended.items (held_by (λ r. r.place) h.running.items) n host host' left' c.args.spare c.args.end) c.requires.none_run c.requires.stopped)) c.retire.ensures.is_of c.retire.ensures.retired

pub returns-in-None : goal.returns-in-None
returns-in-None g c = let t = (terms g.M.Machine.next g.M.Machine.answer g.M.Machine.number g.M.Served.call g.M.Served.user g.M.Served.least g.M.Served.closes g.K.Keeper.faults g.H.Link.Source.told g.H.Link.Sink.told c.args.users.now (g.H.Host.left c.args.all.now.value)) in let host = g.H.Host.told c.args.all.now.value in let host' = g.H.Host.told c.args.host.now in let left' = g.H.Host.left c.args.host.now in let h = c.args.hall.now in
    over t c.args.lock.now h.pass h.ended.items (held_by (λ r. r.place) h.running.items) host host' left' c.args.end (held_none (λ r. r.place) h.running.items (search rules))
    (subst (λ s. IsStopped t c.args.lock.now h.pass h.ended.items (held_by (λ r. r.place) h.running.items) 0 host host' left' s c.args.end) c.in-None.is
    (subst (λ n. IsStopped t c.args.lock.now h.pass h.ended.items (held_by (λ r. r.place) h.running.items) n host host' left' c.args.spare c.args.end) c.requires.none_run c.requires.stopped))
