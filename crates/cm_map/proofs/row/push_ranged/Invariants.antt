use Rattle.std.proofs.Common.{◌≡◌, ◌++◌, map, take, flat_map}
use Rattle.std.specs.Arc.{arc_value}
use Rattle.core.specs.FinMap.Entries.{where_key}
use Rattle.cm_map.specs.Parts.{pointee, within}
use Rattle.cm_map.proofs.row.push_ranged.Given as goal

abbrev pub invariant-loop-x : goal.invariant-loop-x
invariant-loop-x g l = map pointee l.out.items ≡ map pointee l.initial.out.items ++ where_key g.K.Ord.cmp (within g.K.Ord.cmp l.least l.most) (flat_map g.B.Block.entries (map arc_value (take l.x-index l.xs)))
