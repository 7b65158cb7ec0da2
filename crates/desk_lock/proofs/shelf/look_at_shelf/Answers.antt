use Rattle.std.proofs.Common.{rules}
use Rattle.desk_lock.proofs.Shelving.{looks}
use Rattle.desk_lock.proofs.shelf.look_at_shelf.Goals as goal

pub load-requires : goal.load-requires
load-requires g c = (search rules, search rules, looks c.args.top.now.key _ _ _ _ c.requires.out)
