use Rattle.std.proofs.Common.{ap, ◌∙◌}
use Rattle.cmis_spec.specs.Repository.{is_taken}
use Rattle.cm_state.specs.Kept.{repository_of}
use Rattle.cm_state.proofs.Looked.{taken_same}
use Rattle.cm_state.proofs.parts.Parts.is_taken.Goals as goal

pub returns : goal.returns
returns c =
    c.is_taken.ensures
    ∙ (taken_same (repository_of c.self.inside) c.self.inside.filing c.args.folder c.args.but c.args.name.now c.self.invariant.told ∙ ap (λ r. is_taken r c.args.folder c.args.but c.args.name.now) c.self.view_is)
