use Rattle.std.proofs.Common.{◌≡◌, ◌++◌, map, take}
use Rattle.std.specs.Arc.{arc_value}
use Rattle.cm_map.proofs.rows.push_all.Given as goal

abbrev pub invariant-loop-x : goal.invariant-loop-x
invariant-loop-x g l = map arc_value l.out.items ≡ map arc_value l.initial.out.items ++ map arc_value (take l.x-index l.xs)
