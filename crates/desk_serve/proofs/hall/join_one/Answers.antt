use Rattle.std.proofs.Common.{rules, ◌+◌, vec_len}
use Rattle.desk_serve.specs.Sessions.{terms}
use Rattle.desk_serve.specs.Keeping.{held_by, and_at}
use Rattle.desk_serve.proofs.Lists.{held_removed}
use Rattle.desk_serve.proofs.Noting.{moved}
use Rattle.desk_serve.proofs.hall.join_one.Goals as goal

pub returns-clause-keeps : goal.returns-clause-keeps
returns-clause-keeps g c = let h = c.args.hall.now in let rest = c.settle.new.hall.running in let row = c.swap_remove-row.result in
    c.settle.ensures.keeps (held_by (λ r. r.place) rest.items) (vec_len rest) 0 c.args.place
    (moved (terms g.M.Machine.next g.M.Machine.answer g.M.Machine.number g.M.Served.call g.M.Served.user g.M.Served.least g.M.Served.closes g.K.Keeper.faults g.H.Link.Source.told g.H.Link.Sink.told c.args.users.now (g.H.Host.left c.args.all.now.value)) c.args.lock.now h.pass h.ended.items (held_by (λ r. r.place) h.running.items) (and_at row.place (held_by (λ r. r.place) rest.items)) (vec_len h.running) (vec_len rest + 1) 0 c.args.place
    (held_removed (λ r. r.place) h.running.items rest.items c.find-at.result row (search rules) (search rules) (search rules)) (search rules) c.requires.keeps)
