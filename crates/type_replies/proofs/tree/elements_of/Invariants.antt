use Rattle.std.proofs.Common.{◌≡◌, ◌++◌, length, map}
use Rattle.json_text.specs.Shown.{listed}
use Rattle.type_replies.specs.Shown.{standing}
use Rattle.type_replies.proofs.tree.elements_of.Given as goal

abbrev pub invariant-trees : goal.invariant-trees
invariant-trees l = map (λ t. t.1) (standing l.initial.trees.items) ≡ listed l.elements ++ map (λ t. t.1) (standing l.trees.items)

abbrev pub decreases-trees : goal.decreases-trees
decreases-trees l = length l.trees.items
