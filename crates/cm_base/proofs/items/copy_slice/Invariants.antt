use Rattle.std.proofs.Common.{◌≡◌, take}
use Rattle.cm_base.proofs.items.copy_slice.Given as goal

abbrev pub invariant-loop-item : goal.invariant-loop-item
invariant-loop-item g l = l.all.items ≡ take l.item-index l.items
