use Rattle.std.proofs.Common.{ap, ◌∙◌}
use Rattle.cm_state.specs.Kept.{repository_of}
use Rattle.cm_state.specs.Looks.{child_in}
use Rattle.cm_state.proofs.Looked.{named_same}
use Rattle.cm_state.proofs.parts.Parts.child_named.Goals as goal

pub returns : goal.returns
returns c =
    c.child_named.ensures
    ∙ (named_same (repository_of c.self.inside) c.self.inside.filing c.args.folder c.args.name.now c.self.invariant.told ∙ ap (λ r. child_in r c.args.folder c.args.name.now) c.self.view_is)
