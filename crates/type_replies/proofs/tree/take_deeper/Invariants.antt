use Rattle.std.proofs.Common.{◌≡◌, ◌++◌, length}
use Rattle.json_text.specs.Shown.{listed}
use Rattle.type_replies.specs.Shown.{standing}
use Rattle.type_replies.specs.Types.{behind, deeper}
use Rattle.type_replies.proofs.tree.take_deeper.Given as goal

abbrev pub invariant-trees : goal.invariant-trees
invariant-trees l = (deeper l.level (standing l.initial.trees.items) ≡ listed l.taken ++ deeper l.level (standing l.trees.items)) × (behind l.level (standing l.initial.trees.items) ≡ behind l.level (standing l.trees.items))

abbrev pub decreases-trees : goal.decreases-trees
decreases-trees l = length l.trees.items
