use Rattle.std.proofs.Common.{rules, None}
use Rattle.desk_lock.specs.declared.board.Store.TheVariants.{Absent}
use Rattle.desk_lock.proofs.Shelving.{releases_shelf}
use Rattle.desk_lock.proofs.shelf.shut_shelf.Goals as goal

pub store-requires : goal.store-requires
store-requires g c = (search rules, search rules, releases_shelf c.args.top.now.key _ _ _ (record { version = c.args.version; again = None; settled = 0; store = Absent }) c.requires.table.1.1 (search rules) (search rules) (search rules))
