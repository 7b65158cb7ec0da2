use Rattle.std.proofs.Common.{◌∙◌}
use Rattle.cm_folder.proofs.Edits.{put_in}
use Rattle.cm_folder.proofs.filing.Filing.put_in.Goals as goal

pub returns : goal.returns
returns c = c.in_ok-filing.ensures ∙ put_in c.args.child c.args.source c.args.target c.args.self.now
