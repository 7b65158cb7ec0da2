use Rattle.std.proofs.Common.{rules}
use Rattle.std.specs.Arc.{arc_value}
use Rattle.desk_lock.proofs.Putting.{rest_kept, rest_failed}
use Rattle.desk_lock.proofs.turn.settle_rest.Goals as goal

pub returns-in-Ok-clause-settled : goal.returns-in-Ok-clause-settled
returns-in-Ok-clause-settled g c = let h = c.requires.home in
    rest_kept g.K.Keeper.stands g.K.Keeper.went g.K.Keeper.faults g.met.K.Keeper.joins c.args.first.now.value c.in-Whole.keeper c.keep.new.self c.args.store h.0 (arc_value c.args.version.now).journal c.args.settled (search rules) h.1 h.2 h.3 (search rules) (search rules)

pub returns-in-Err-clause-settled : goal.returns-in-Err-clause-settled
returns-in-Err-clause-settled g c = let h = c.requires.home in
    rest_failed g.K.Keeper.stands g.K.Keeper.went g.K.Keeper.faults g.met.K.Keeper.joins c.args.first.now.value c.in-Whole.keeper c.keep.new.self c.args.store h.0 (arc_value c.args.version.now).journal c.args.settled (search rules) h.1 h.2 h.3 (search rules) (search rules)
