use Rattle.std.proofs.Common.{rules}
use Rattle.desk_lock.proofs.Turning.{releases}
use Rattle.desk_lock.proofs.turn.shut.Goals as goal

pub store-requires : goal.store-requires
store-requires g c = let o = c.requires.out in (search rules, search rules, releases c.args.top.now.key _ _ _ c.args.laid o.0 c.requires.table.1.1 (search rules) (search rules) (search rules) (record { first = o.4.first; begun = search rules; keeps = o.4.keeps; settled = o.4.settled; again = o.4.again }))
