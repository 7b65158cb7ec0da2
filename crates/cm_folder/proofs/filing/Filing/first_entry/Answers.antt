use Rattle.std.proofs.Common.{ap, find, ◌∙◌}
use Rattle.cmis_spec.specs.Repository.{same}
use Rattle.cm_folder.proofs.filing.Filing.first_entry.Goals as goal

pub returns : goal.returns
returns c = c.first_entry.ensures ∙ ap (find (λ e. same e.child c.args.child)) c.self.view_is
