use Rattle.std.proofs.Common.{ap, ◌∙◌}
use Rattle.cm_state.specs.Looks.{folders_in}
use Rattle.cm_state.proofs.Looked.{folders_same}
use Rattle.cm_state.proofs.parts.Parts.folders.Goals as goal

pub returns : goal.returns
returns c = c.folders.ensures ∙ (folders_same c.self.inside.filing c.args.n ∙ ap (λ r. folders_in r c.args.n) c.self.view_is)
