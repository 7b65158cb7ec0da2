use Rattle.std.proofs.Common.{rules}
use Rattle.std.specs.Arc.{arc_value}
use Rattle.desk_lock.proofs.Putting.{whole_since}
use Rattle.desk_lock.proofs.turn.leave.Goals as goal

pub settle-requires-clause-out : goal.settle-requires-clause-out
settle-requires-clause-out g c = let o = c.requires.out in
    (o.0, o.5.first, search rules, search rules, search rules, o.4, o.5.settled, o.5.begun, whole_since g.K.Keeper.stands g.K.Keeper.went g.K.Keeper.faults o.5.first c.in-Whole.keeper c.args.laid.store o.0 (arc_value c.args.laid.version).journal c.args.laid.settled o.5.settled (search rules) o.5.keeps)
