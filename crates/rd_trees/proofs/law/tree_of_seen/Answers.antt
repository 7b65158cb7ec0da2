use Rattle.cm_base.specs.declared.cause.Cause.TheVariants as causes
use Rattle.cm_see.specs.Addressed.{addressed}
use Rattle.cm_see.proofs.Answers.{addressed_alike, answer_alike}
use Rattle.cm_see.proofs.Worlds.{AreAlike}
use Rattle.rd_trees.specs.ReadTree.{answer_tree_of}
use Rattle.rd_trees.proofs.Trees.{tree_of_alike}
use Rattle.rd_trees.proofs.law.tree_of_seen.Goals as goal

pub returns : goal.returns
returns c r u q w other v e =
    let a : AreAlike r other u = record { well = w; other_well = v; alike = e } in
    answer_alike r other u causes.NotFound (addressed r u q.tree.place) (addressed other u q.tree.place)
    (answer_tree_of r u q) (answer_tree_of other u q)
    (addressed_alike r other u q.tree.place a) (tree_of_alike r other u a q)
