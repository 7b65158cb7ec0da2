use Rattle.std.proofs.Common.{◌≡◌, ◌-◌, length, drop}
use Rattle.type_replies.specs.Shown.{standing}
use Rattle.include_json.specs.Trees.{trees_in}
use Rattle.include_json.proofs.tree.trees_in.Given as goal

abbrev pub invariant-loop-i : goal.invariant-loop-i
invariant-loop-i l = standing l.trees.items ≡ trees_in (drop (length l.rows - l.i) l.rows)
