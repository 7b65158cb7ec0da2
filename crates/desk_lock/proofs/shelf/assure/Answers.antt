use Rattle.std.proofs.Common.{rules}
use Rattle.desk_lock.proofs.Shelving.{assures}
use Rattle.desk_lock.proofs.shelf.assure.Goals as goal

pub load-requires : goal.load-requires
load-requires g c = (search rules, search rules, assures c.args.top.now.key _ _ c.args.place.now.me c.requires.live)
