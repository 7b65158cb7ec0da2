use Rattle.std.proofs.Common.{◌∙◌}
use Rattle.cm_folder.proofs.Edits.{taken_out}
use Rattle.cm_folder.proofs.filing.Filing.taken_out.Goals as goal

pub returns : goal.returns
returns c = c.in_ok-filing.ensures ∙ taken_out c.args.folder c.args.child c.args.self.now
