use Rattle.std.proofs.Common.{◌≡◌, ◌+◌, map, take}
use Rattle.std.specs.Prelude.{sum}
use Rattle.call_parts.specs.Weight.{bounded}
use Rattle.bulk_parts.specs.Weight.{weight_of_object}
use Rattle.bulk_parts.proofs.weight.with_each.Given as goal

abbrev pub invariant-loop-object : goal.invariant-loop-object
invariant-loop-object l = l.total ≡ bounded (l.initial.so_far + sum (map (weight_of_object l.properties) (take l.object-index l.objects)))
