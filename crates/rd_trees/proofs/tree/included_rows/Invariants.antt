use Rattle.std.proofs.Common.{◌≡◌, map, take}
use Rattle.rd_trees.specs.ReadTree.{included_row}
use Rattle.rd_trees.specs.Walks.{nodes_shown}
use Rattle.rd_trees.proofs.tree.included_rows.Given as goal

abbrev pub invariant-loop-node : goal.invariant-loop-node
invariant-loop-node l = l.rows ≡ map (included_row l.state l.user l.q) (nodes_shown (take l.node-index l.nodes))
