use Rattle.std.proofs.Common.{◌≡◌, map, take}
use Rattle.cm_map.specs.Parts.{pointee}
use Rattle.rd_order.specs.Keyed.{object_and_row}
use Rattle.rd_order.proofs.ordered.objects_of.Given as goal

abbrev pub invariant-loop-one : goal.invariant-loop-one
invariant-loop-one l = map pointee l.objects.items ≡ map (λ p. p.0) (map object_and_row (take l.one-index l.all))
