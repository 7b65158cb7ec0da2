use Rattle.std.proofs.Common.{rules}
use Rattle.desk_lock.proofs.Splitting.{catches}
use Rattle.desk_lock.proofs.seats.catch_up.Goals as goal

pub load-requires : goal.load-requires
load-requires g c = let r = c.requires.live in (search rules, search rules, catches c.args.top.now.key _ _ c.args.place.now.me r.0 r.1)
