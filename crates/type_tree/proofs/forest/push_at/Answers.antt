use Rattle.std.proofs.Common.{arith}
use Rattle.std.proofs.lemmas.Grind.{text_groups}
use Rattle.type_tree.proofs.forest.push_at.Goals as goal

pub returns : goal.returns
returns c = grind (arith, text_groups)
