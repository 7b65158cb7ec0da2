use Rattle.std.proofs.Common.{◌≡◌, ◌++◌, map, take}
use Rattle.cm_map.specs.Parts.{pointee}
use Rattle.type_tree.specs.Trees.{rows_of}
use Rattle.type_tree.proofs.rows.+add_rows.Given as goal

abbrev pub invariant-loop-def : goal.invariant-loop-def
invariant-loop-def l = l.rows ≡ l.initial.rows ++ rows_of l.levels l.forest l.level (map pointee (take l.def-index l.tops))

abbrev pub decreases-add_rows : goal.decreases-add_rows
decreases-add_rows l = l.levels
