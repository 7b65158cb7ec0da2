use Rattle.std.proofs.Common.{◌≡◌, ◌+◌, take}
use Rattle.std.specs.List.{flat_map}
use Rattle.call_parts.specs.Weight.{weight_of_texts, bounded}
use Rattle.type_change_parts.specs.Weight.{texts_of_scalar}
use Rattle.type_change_parts.proofs.weight.with_scalars.Given as goal

abbrev pub invariant-loop-scalar : goal.invariant-loop-scalar
invariant-loop-scalar l = l.total ≡ bounded (l.initial.so_far + weight_of_texts (flat_map texts_of_scalar (take l.scalar-index l.scalars)))
