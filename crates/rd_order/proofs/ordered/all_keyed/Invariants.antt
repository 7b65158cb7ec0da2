use Rattle.std.proofs.Common.{◌≡◌, map, take}
use Rattle.cm_map.specs.Parts.{pointee}
use Rattle.rd_order.specs.Keyed.{object_and_row, with_row}
use Rattle.rd_order.proofs.ordered.all_keyed.Given as goal

abbrev pub invariant-loop-x : goal.invariant-loop-x
invariant-loop-x l = map object_and_row l.all.items ≡ map (with_row l.state l.user l.filter) (map pointee (take l.x-index l.objects))
