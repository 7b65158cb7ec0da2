use Rattle.std.proofs.Common.{ap, ◌∙◌}
use Rattle.cm_folder.specs.Trees.{is_folder_in}
use Rattle.cm_folder.proofs.filing.Filing.is_folder.Goals as goal

pub returns : goal.returns
returns c = c.is_folder.ensures ∙ ap (λ l. is_folder_in l c.args.child) c.self.view_is
