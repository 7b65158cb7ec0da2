use Rattle.std.proofs.Common.{rules, refl}
use Rattle.std.specs.Arc.{arc_value}
use Rattle.desk_lock.specs.Words.{Since}
use Rattle.desk_lock.proofs.Putting.{keep_failed, goes_on_from}
use Rattle.desk_lock.proofs.turn.settle.Goals as goal

pub shut-requires-clause-out : goal.shut-requires-clause-out
shut-requires-clause-out g c = let o = c.requires.out in
    let on = goes_on_from g.K.Keeper.went g.met.K.Keeper.joins o.1 c.args.keeper c.keep.new.self o.0 (arc_value c.args.version).journal c.args.settled o.5 o.6 o.8.1 (search rules) in
    ((arc_value c.args.version).journal, search rules, search rules, search rules, record { first = o.1; begun = search rules; keeps = (search rules, on); settled = search rules; again = refl })

pub shut-requires-in-Err-clause-out : goal.shut-requires-in-Err-clause-out
shut-requires-in-Err-clause-out g c = let o = c.requires.out in
    let on = goes_on_from g.K.Keeper.went g.met.K.Keeper.joins o.1 c.args.keeper c.keep.new.self o.0 (arc_value c.args.version).journal c.args.settled o.5 o.6 o.8.1 (search rules) in
    (o.0, search rules, search rules, search rules, record { first = o.1; begun = search rules; keeps = (keep_failed (Since g.K.Keeper.stands g.K.Keeper.went o.1 c.keep.new.self) o.0 (arc_value c.args.version).journal c.args.settled o.5 o.6 (search rules, on), search rules); settled = o.6; again = c.requires.same })
