use Rattle.std.proofs.Common.{rules}
use Rattle.desk_lock.proofs.Splitting.{helps, tells}
use Rattle.desk_lock.proofs.seats.hear.Goals as goal

pub split_seat-helper-requires : goal.split_seat-helper-requires
split_seat-helper-requires g c = (search rules, search rules, helps c.args.top.now.key _ _ c.requires.ready.2)

pub join_seat-requires : goal.join_seat-requires
join_seat-requires g c = (search rules, search rules, search rules, search rules, tells c.args.top.now.key _ _ _ _ c.args.from.now.me.0 c.requires.ready.1 (search rules))
