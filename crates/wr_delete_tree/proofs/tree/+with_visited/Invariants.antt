use Rattle.std.proofs.Common.{◌≡◌, ◌++◌, take}
use Rattle.wr_delete_tree.specs.DeleteTree.{visited}
use Rattle.wr_delete_tree.proofs.tree.+with_visited.Given as goal

abbrev pub invariant-loop-n : goal.invariant-loop-n
invariant-loop-n l = l.more ≡ l.fn.all ++ visited l.levels l.state (take l.n-index l.numbers)

abbrev pub decreases-with_visited : goal.decreases-with_visited
decreases-with_visited l = l.levels
