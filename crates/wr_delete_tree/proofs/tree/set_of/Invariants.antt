use Rattle.std.proofs.Common.{◌≡◌, [], take}
use Rattle.std.specs.Prelude.{fold}
use Rattle.core.specs.Ordering.{nat_cmp}
use Rattle.cm_map.specs.Sets.{with_key}
use Rattle.wr_delete_tree.proofs.tree.set_of.Given as goal

abbrev pub invariant-loop-n : goal.invariant-loop-n
invariant-loop-n l = l.all ≡ fold (λ ks n. with_key nat_cmp ks n.0) [] (take l.n-index l.numbers)
