use Rattle.std.proofs.Common.{ap, ◌∙◌}
use Rattle.cm_state.specs.Looks.{entries_in}
use Rattle.cm_state.proofs.Looked.{entries_same}
use Rattle.cm_state.proofs.parts.Parts.entries.Goals as goal

pub returns : goal.returns
returns c = c.children.ensures ∙ (entries_same c.self.inside.filing c.args.folder ∙ ap (λ r. entries_in r c.args.folder) c.self.view_is)
