use Rattle.std.proofs.Common.{◌≡◌, ◌++◌, take}
use Rattle.std.specs.List.{filter_map}
use Rattle.cm_objects.specs.Indexed.{scalar_key}
use Rattle.cm_objects.proofs.keys.push_scalars.Given as goal

abbrev pub invariant-loop-scalar : goal.invariant-loop-scalar
invariant-loop-scalar l = l.keys ≡ l.initial.keys ++ filter_map scalar_key (take l.scalar-index l.scalars)
