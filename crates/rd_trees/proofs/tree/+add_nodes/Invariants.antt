use Rattle.std.proofs.Common.{◌≡◌, ◌++◌, map, take}
use Rattle.cm_map.specs.Parts.{pointee}
use Rattle.rd_trees.specs.ReadTree.{placed}
use Rattle.rd_trees.specs.Walks.{nodes_shown}
use Rattle.rd_trees.proofs.tree.+add_nodes.Given as goal

abbrev pub invariant-loop-x : goal.invariant-loop-x
invariant-loop-x l = nodes_shown l.nodes.items ≡ nodes_shown l.initial.nodes.items ++ placed l.levels l.scope.state.now l.scope.user.now l.scope.folders_only l.level (map pointee (take l.x-index l.tops))

abbrev pub decreases-add_nodes : goal.decreases-add_nodes
decreases-add_nodes l = l.levels
