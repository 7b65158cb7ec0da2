use Rattle.std.proofs.Common.{ap, ◌∙◌}
use Rattle.cmis_spec.specs.Repository.{is_filed}
use Rattle.cm_state.proofs.Looked.{filed_same}
use Rattle.cm_state.proofs.parts.Parts.is_filed.Goals as goal

pub returns : goal.returns
returns c = c.is_filed.ensures ∙ (filed_same c.self.inside.filing c.args.folder c.args.n ∙ ap (λ r. is_filed r c.args.folder c.args.n) c.self.view_is)
