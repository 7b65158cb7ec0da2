use Rattle.std.proofs.Common.{rules}
use Rattle.desk_lock.proofs.Splitting.{takes_in}
use Rattle.desk_lock.proofs.seats.take_in.Goals as goal

pub join_seat-requires : goal.join_seat-requires
join_seat-requires g c = let r = c.requires.ready in (search rules, search rules, search rules, search rules, takes_in c.args.top.now.key _ _ _ _ r.0 r.1 r.2 r.3 r.4)
