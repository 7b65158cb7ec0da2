use Rattle.std.proofs.Common.{rules}
use Rattle.desk_lock.proofs.Turning.{learns}
use Rattle.desk_lock.proofs.turn.learn.Goals as goal

pub load-requires : goal.load-requires
load-requires g c = let o = c.requires.out in (search rules, search rules, learns c.args.top.now.key _ _ _ _ o.0 o.1)
