use Rattle.std.proofs.Common.{rules}
use Rattle.std.specs.Arc.{arc_value}
use Rattle.desk_lock.proofs.shelf.show.Goals as goal

pub store_number-requires-clause-out : goal.store_number-requires-clause-out
store_number-requires-clause-out g c = ((c.requires.out.0.0, search rules), ((arc_value c.open_shelf-before.result).journal, search rules))
