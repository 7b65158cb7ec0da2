use Rattle.std.proofs.Common.{rules, ◌+◌, vec_len, sym, subst, All}
use Rattle.std.proofs.lemmas.List.Elements.{All-pop}
use Rattle.desk_serve.specs.Sessions.{terms}
use Rattle.desk_serve.specs.Keeping.{held_by, and_at, Runs}
use Rattle.desk_serve.proofs.Lists.{held_popped}
use Rattle.desk_serve.proofs.Noting.{moved}
use Rattle.desk_serve.proofs.Ending.{fewer}
use Rattle.desk_serve.proofs.hall.join_all.Goals as goal

pub loop-row-preserved : goal.loop-row-preserved
loop-row-preserved g c = let old = c.loop-row.hall in let new = c.settle.new.hall.running in let row = c.in-Some.row in
    let host = g.H.Host.told c.args.all.now.value in let host' = g.H.Host.told c.args.host.now in let left' = g.H.Host.left c.args.host.now in (
      fewer (terms g.M.Machine.next g.M.Machine.answer g.M.Machine.number g.M.Served.call g.M.Served.user g.M.Served.least g.M.Served.closes g.K.Keeper.faults g.H.Link.Source.told g.H.Link.Sink.told c.args.users.now (g.H.Host.left c.args.all.now.value)) c.args.lock.now old.pass c.settle.new.hall.pass old.ended.items c.settle.new.hall.ended.items (held_by (λ r. r.place) old.running.items) (held_by (λ r. r.place) new.items) (vec_len old.running) (vec_len new) host host' left' c.args.spare.now c.args.end.now
          (λ spare n k. c.settle.ensures.keeps (held_by (λ r. r.place) new.items) (vec_len new) spare n
          (moved (terms g.M.Machine.next g.M.Machine.answer g.M.Machine.number g.M.Served.call g.M.Served.user g.M.Served.least g.M.Served.closes g.K.Keeper.faults g.H.Link.Source.told g.H.Link.Sink.told c.args.users.now (g.H.Host.left c.args.all.now.value)) c.args.lock.now old.pass old.ended.items (held_by (λ r. r.place) old.running.items) (and_at row.place (held_by (λ r. r.place) new.items)) (vec_len old.running) (vec_len new + 1) spare n
          (held_popped (λ r. r.place) old.running.items new.items row (search rules)) (search rules) k))
          c.loop-row.invariant.0,
      subst (λ v. All (λ r. Runs (terms g.M.Machine.next g.M.Machine.answer g.M.Machine.number g.M.Served.call g.M.Served.user g.M.Served.least g.M.Served.closes g.K.Keeper.faults g.H.Link.Source.told g.H.Link.Sink.told c.args.users.now (g.H.Host.left c.args.all.now.value)) c.args.lock.now r.handle.promise.lock.value r.handle.promise.users.value r.handle.promise.pass.value r.handle.promise.link.value r.place r.before) v.items) (sym c.settle.ensures.running) (All-pop (λ r. Runs (terms g.M.Machine.next g.M.Machine.answer g.M.Machine.number g.M.Served.call g.M.Served.user g.M.Served.least g.M.Served.closes g.K.Keeper.faults g.H.Link.Source.told g.H.Link.Sink.told c.args.users.now (g.H.Host.left c.args.all.now.value)) c.args.lock.now r.handle.promise.lock.value r.handle.promise.users.value r.handle.promise.pass.value r.handle.promise.link.value r.place r.before) old.running.items c.pop.new.self.items c.pop.result c.pop.ensures.items c.loop-row.invariant.1).0,
      search rules,
    )
