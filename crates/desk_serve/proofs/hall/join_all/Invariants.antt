use Rattle.std.proofs.Common.{◌+◌, ◌≤◌, All, vec_len, vec_capacity}
use Rattle.desk_serve.specs.Sessions.{terms}
use Rattle.desk_serve.specs.Keeping.{IsStopped, Runs, held_by}
use Rattle.desk_serve.proofs.hall.join_all.Given as goal

abbrev pub invariant-loop-row : goal.invariant-loop-row
invariant-loop-row g l = IsStopped (terms g.M.Machine.next g.M.Machine.answer g.M.Machine.number g.M.Served.call g.M.Served.user g.M.Served.least g.M.Served.closes g.K.Keeper.faults g.H.Link.Source.told g.H.Link.Sink.told l.users (g.H.Host.left l.all.value)) l.lock l.hall.pass l.hall.ended.items (held_by (λ r. r.place) l.hall.running.items) (vec_len l.hall.running) (g.H.Host.told l.all.value) (g.H.Host.told l.host) (g.H.Host.left l.host) l.spare l.end
    × All (λ r. Runs (terms g.M.Machine.next g.M.Machine.answer g.M.Machine.number g.M.Served.call g.M.Served.user g.M.Served.least g.M.Served.closes g.K.Keeper.faults g.H.Link.Source.told g.H.Link.Sink.told l.users (g.H.Host.left l.all.value)) l.lock r.handle.promise.lock.value r.handle.promise.users.value r.handle.promise.pass.value r.handle.promise.link.value r.place r.before) l.hall.running.items
    × (vec_len l.hall.ended + vec_len l.hall.running ≤ vec_capacity l.hall.ended)

abbrev pub decreases-loop-row : goal.decreases-loop-row
decreases-loop-row g l = vec_len l.hall.running
