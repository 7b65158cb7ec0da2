use Rattle.cm_folder.proofs.Trees.{shift_tree}
use Rattle.cm_folder.proofs.filing.Filing.shift.Goals as goal

pub returns : goal.returns
returns c = record { answer = c.shift_judged-filing.ensures; tree = shift_tree c.shift_judged-filing.result c.args.self.now c.args.child c.args.source c.args.target c.shift_judged-filing.ensures }
