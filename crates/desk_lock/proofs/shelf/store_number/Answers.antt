use Rattle.std.proofs.Common.{rules}
use Rattle.std.specs.Arc.{arc_value}
use Rattle.desk_lock.proofs.Shelving.{stores}
use Rattle.desk_lock.proofs.shelf.store_number.Goals as goal

pub store-requires : goal.store-requires
store-requires g c = let o = c.requires.out in (search rules, search rules, stores c.args.top.now.key _ _ c.args.number _ o.1.0 (arc_value c.args.version.now).journal o.0.0 o.1.1 o.0.1 c.requires.number)
