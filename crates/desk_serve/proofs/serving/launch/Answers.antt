use Rattle.std.proofs.Common.{rules, ◌+◌, vec_len, sym, ap, subst, All}
use Rattle.std.proofs.lemmas.List.Elements.{All-push}
use Rattle.desk_serve.specs.Sessions.{terms}
use Rattle.desk_serve.specs.Keeping.{held_by, and_at, Runs}
use Rattle.desk_serve.proofs.Lists.{held_pushed}
use Rattle.desk_serve.proofs.Noting.{moved, takes_one, runs_of}
use Rattle.desk_serve.proofs.serving.launch.Goals as goal

pub returns-in-Ok-clause-keeps : goal.returns-in-Ok-clause-keeps
returns-in-Ok-clause-keeps g c = let h = c.args.hall.now in let new = c.push_reserved.new.self in
    moved (terms g.M.Machine.next g.M.Machine.answer g.M.Machine.number g.M.Served.call g.M.Served.user g.M.Served.least g.M.Served.closes g.K.Keeper.faults g.H.Link.Source.told g.H.Link.Sink.told c.args.users.now (g.H.Host.left c.args.all.now.value)) c.args.lock.now h.pass h.ended.items (and_at c.args.place (held_by (λ r. r.place) h.running.items)) (held_by (λ r. r.place) new.items) (vec_len h.running + 1) (vec_len new) 0 (c.args.place + 1)
    (held_pushed (λ r. r.place) h.running.items new.items _ c.push_reserved.ensures.items) (search rules)
    (takes_one (terms g.M.Machine.next g.M.Machine.answer g.M.Machine.number g.M.Served.call g.M.Served.user g.M.Served.least g.M.Served.closes g.K.Keeper.faults g.H.Link.Source.told g.H.Link.Sink.told c.args.users.now (g.H.Host.left c.args.all.now.value)) c.args.lock.now h.pass h.ended.items (held_by (λ r. r.place) h.running.items) (vec_len h.running) c.args.place c.requires.keeps)

pub returns-in-Ok-clause-rows : goal.returns-in-Ok-clause-rows
returns-in-Ok-clause-rows g c = let h = c.args.hall.now in let e = c.in-Ok.ensures.running in
    subst (All (λ r. Runs (terms g.M.Machine.next g.M.Machine.answer g.M.Machine.number g.M.Served.call g.M.Served.user g.M.Served.least g.M.Served.closes g.K.Keeper.faults g.H.Link.Source.told g.H.Link.Sink.told c.args.users.now (g.H.Host.left c.args.all.now.value)) c.args.lock.now r.handle.promise.lock.value r.handle.promise.users.value r.handle.promise.pass.value r.handle.promise.link.value r.place r.before)) (sym c.push_reserved.ensures.items) (All-push (λ r. Runs (terms g.M.Machine.next g.M.Machine.answer g.M.Machine.number g.M.Served.call g.M.Served.user g.M.Served.least g.M.Served.closes g.K.Keeper.faults g.H.Link.Source.told g.H.Link.Sink.told c.args.users.now (g.H.Host.left c.args.all.now.value)) c.args.lock.now r.handle.promise.lock.value r.handle.promise.users.value r.handle.promise.pass.value r.handle.promise.link.value r.place r.before) h.running.items _ c.requires.rows
    (runs_of (terms g.M.Machine.next g.M.Machine.answer g.M.Machine.number g.M.Served.call g.M.Served.user g.M.Served.least g.M.Served.closes g.K.Keeper.faults g.H.Link.Source.told g.H.Link.Sink.told c.args.users.now (g.H.Host.left c.args.all.now.value)) c.args.lock.now _ _ c.args.pass _ c.args.link _ c.args.place c.seen-before.result e.0 e.1 e.2 e.3 c.requires.given c.requires.was_new (search rules)))

pub returns-in-Err-clause-keeps : goal.returns-in-Err-clause-keeps
returns-in-Err-clause-keeps g c = let h = c.args.hall.now in let new = c.note.new.hall.running in
    c.note.ensures.keeps (held_by (λ r. r.place) new.items) (vec_len new) 0 (c.args.place + 1)
    (moved (terms g.M.Machine.next g.M.Machine.answer g.M.Machine.number g.M.Served.call g.M.Served.user g.M.Served.least g.M.Served.closes g.K.Keeper.faults g.H.Link.Source.told g.H.Link.Sink.told c.args.users.now (g.H.Host.left c.args.all.now.value)) c.args.lock.now h.pass h.ended.items (and_at c.args.place (held_by (λ r. r.place) h.running.items)) (and_at c.args.place (held_by (λ r. r.place) new.items)) (vec_len h.running + 1) (vec_len new + 1) 0 (c.args.place + 1)
    (λ k. ap (λ v. and_at c.args.place (held_by (λ r. r.place) v.items) k) c.note.ensures.running) (ap (λ v. vec_len v + 1) c.note.ensures.running)
    (takes_one (terms g.M.Machine.next g.M.Machine.answer g.M.Machine.number g.M.Served.call g.M.Served.user g.M.Served.least g.M.Served.closes g.K.Keeper.faults g.H.Link.Source.told g.H.Link.Sink.told c.args.users.now (g.H.Host.left c.args.all.now.value)) c.args.lock.now h.pass h.ended.items (held_by (λ r. r.place) h.running.items) (vec_len h.running) c.args.place c.requires.keeps))
