use Rattle.std.proofs.Common.{length}
use Rattle.rd_order.proofs.key.+orderable_named.Given as goal

abbrev pub decreases-orderable_named : goal.decreases-orderable_named
decreases-orderable_named l = length l.types.now
