use Rattle.std.proofs.Common.{◌≡◌, map, take, filter}
use Rattle.cm_map.specs.Parts.{pointee}
use Rattle.type_tree.specs.Trees.{stands_below}
use Rattle.type_tree.proofs.below.types_below.Given as goal

abbrev pub invariant-loop-def : goal.invariant-loop-def
invariant-loop-def l = map pointee l.below.items ≡ filter (stands_below l.top) (map pointee (take l.def-index l.types))
