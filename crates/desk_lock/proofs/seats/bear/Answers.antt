use Rattle.std.proofs.Common.{rules}
use Rattle.desk_lock.proofs.Splitting.{splits}
use Rattle.desk_lock.proofs.seats.bear.Goals as goal

pub split_seat-requires : goal.split_seat-requires
split_seat-requires g c = let r = c.requires.first in (search rules, search rules, splits c.args.top.now.key _ _ r.0 r.1 r.2 r.3)
