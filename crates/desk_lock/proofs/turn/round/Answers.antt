use Rattle.std.proofs.Common.{rules}
use Rattle.desk_lock.proofs.Turning.{rounds}
use Rattle.desk_lock.proofs.turn.round.Goals as goal

pub fetch_add-requires : goal.fetch_add-requires
fetch_add-requires g c = (search rules, search rules, rounds c.args.top.now.key _ _ c.args.place.now.me)
