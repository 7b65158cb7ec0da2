use Rattle.std.specs.Arc.{arc_value}
use Rattle.std.proofs.Common.{rules}
use mathlib.Core.Option.{none}
use Rattle.atomic_table.specs.Table.{step}
use Rattle.desk_lock.proofs.Meeting.{meeting}
use Rattle.desk_lock.proofs.lock.Lock.meet.Goals as goal

pub returns-clause-met : goal.returns-clause-met
returns-clause-met g c = let a = c.a.inside in let b = c.b.inside in let one = c.hear.ensures.seat in let two = c.hear-2.ensures.seat in
    meeting g.M.Machine.next c.args.self.now c.args.a.now c.args.b.now a.place.table_id c.hear-2.new.from.table_id b.place.table_id c.hear-2.new.place.table_id (arc_value a.began).opening (arc_value b.began).opening a.place.me.0 b.place.me.0 (step 2 0 0 0 none) a.place.me.1 b.place.me.1 c.hear.ensures.seen.0 c.hear-2.ensures.seen.0
    c.hear.new.place.me c.hear-2.new.place.me c.hear.new.from.me c.hear-2.new.from.me
    c.a.view_is c.b.view_is c.requires.is_of.0 c.requires.is_of.1 c.hear.ensures.seen.1 (search rules) c.hear-2.ensures.seen.1 (search rules) (search rules) (search rules)
