use Rattle.std.proofs.Common.{◌≡◌, take}
use Rattle.std.specs.List.{filter_map}
use Rattle.wr_delete_tree.specs.DeleteTree.{left_at}
use Rattle.wr_delete_tree.proofs.left.all_left.Given as goal

abbrev pub invariant-loop-n : goal.invariant-loop-n
invariant-loop-n l = l.all ≡ filter_map (left_at l.state l.user l.tree l.top) (take l.n-index l.tree)
