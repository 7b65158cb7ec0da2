use Rattle.std.proofs.Common.{vec_len, subst, Err}
use Rattle.desk_lock.specs.Words.{Splits}
use Rattle.desk_serve.specs.Sessions.{terms}
use Rattle.desk_serve.specs.Keeping.{held_by}
use Rattle.desk_serve.proofs.Noting.{split_one, fresh_one, never_many}
use Rattle.desk_serve.proofs.serving.new_pass.Goals as goal

pub returns-in-Ok-clause-keeps : goal.returns-in-Ok-clause-keeps
returns-in-Ok-clause-keeps g c = let s = c.in-Ok.ensures.split in (
  split_one (terms g.M.Machine.next g.M.Machine.answer g.M.Machine.number g.M.Served.call g.M.Served.user g.M.Served.least g.M.Served.closes g.K.Keeper.faults g.H.Link.Source.told g.H.Link.Sink.told c.args.users.now (g.H.Host.left c.args.all.now.value)) c.args.lock.now c.args.hall.now.pass c.split.new.pass c.args.hall.now.ended.items _ _ 0 c.args.place c.requires.keeps c.in-Ok.ensures.is_of.0 s.2,
  fresh_one (terms g.M.Machine.next g.M.Machine.answer g.M.Machine.number g.M.Served.call g.M.Served.user g.M.Served.least g.M.Served.closes g.K.Keeper.faults g.H.Link.Source.told g.H.Link.Sink.told c.args.users.now (g.H.Host.left c.args.all.now.value)) c.args.lock.now c.args.hall.now.pass c.in-Ok.pass c.requires.keeps.empty c.in-Ok.ensures.is_of.1 s.1,
)

pub unreachable-requires : goal.unreachable-requires
unreachable-requires g c = never_many (terms g.M.Machine.next g.M.Machine.answer g.M.Machine.number g.M.Served.call g.M.Served.user g.M.Served.least g.M.Served.closes g.K.Keeper.faults g.H.Link.Source.told g.H.Link.Sink.told c.args.users.now (g.H.Host.left c.args.all.now.value)) c.args.lock.now c.args.hall.now.pass c.args.hall.now.ended.items (held_by (λ r. r.place) c.args.hall.now.running.items) (vec_len c.args.hall.now.running) c.args.place c.requires.keeps c.requires.fewer
    (subst (λ s. Splits c.args.hall.now.pass c.split.new.pass (Err s)) c.in-Err-Many.field-0-is c.in-Err-Many.ensures.split).0
