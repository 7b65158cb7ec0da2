use Rattle.std.proofs.Common.{◌≡◌, false, take}
use Rattle.std.specs.Prelude.{fold}
use Rattle.wr_delete_tree.specs.DeleteTree.{visit}
use Rattle.wr_delete_tree.proofs.visit.visits.Given as goal

abbrev pub invariant-loop-n : goal.invariant-loop-n
invariant-loop-n l = l.progress ≡ fold (visit l.view.user.now l.view.moment l.view.call.now l.view.tree.now) (record { state = l.fn.state; ended = false }) (take l.n-index l.view.tree.now)
