use Rattle.std.proofs.Common.{◌≡◌, map, take, filter}
use Rattle.cm_map.specs.Parts.{pointee}
use Rattle.rd_trees.specs.ReadTree.{is_in_tree}
use Rattle.rd_trees.proofs.tree.kept.Given as goal

abbrev pub invariant-loop-x : goal.invariant-loop-x
invariant-loop-x l = map pointee l.all.items ≡ filter (is_in_tree l.state l.folders_only) (map pointee (take l.x-index l.objects))
