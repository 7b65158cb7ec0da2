use Rattle.std.proofs.Common.{◌≡◌, ◌-◌, length, drop}
use Rattle.type_replies.specs.Shown.{standing}
use Rattle.type_replies.specs.Types.{trees_of}
use Rattle.type_replies.proofs.tree.trees_of.Given as goal

abbrev pub invariant-loop-i : goal.invariant-loop-i
invariant-loop-i l = standing l.trees.items ≡ trees_of l.property_definitions (drop (length l.rows - l.i) l.rows)
