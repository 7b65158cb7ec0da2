use Rattle.std.proofs.Common.{rules}
use Rattle.std.specs.Arc.{arc_value}
use mathlib.Core.Option.{none}
use Rattle.atomic_table.specs.Table.{step}
use Rattle.desk_lock.proofs.Meeting.{retired}
use Rattle.desk_lock.proofs.lock.Lock.retire.Goals as goal

pub returns-clause-retired : goal.returns-clause-retired
returns-clause-retired g c = let k = c.keep.inside in let x = c.gone.inside in
    (retired g.M.Machine.next c.args.self.now c.args.keep.now c.args.gone k.place.table_id c.take_in.new.place.table_id x.place.table_id (arc_value k.began).opening (arc_value x.began).opening k.place.me.0 x.place.me.0 (step 2 0 0 0 none) k.place.me.1
    c.take_in.ensures.seen.0 c.take_in.new.place.me c.keep.view_is c.gone.view_is c.requires.is_of.0 c.requires.is_of.1 c.take_in.ensures.seen.1 (search rules)).0
