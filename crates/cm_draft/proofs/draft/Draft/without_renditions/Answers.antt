use Rattle.std.proofs.Common.{ap, ◌∙◌}
use Rattle.std.specs.Prelude.{filter, not}
use Rattle.cmis_spec.specs.Repository.{Repository, same}
use Rattle.cm_draft.proofs.draft.Draft.without_renditions.Goals as goal

pub returns-in-Ok : goal.returns-in-Ok
returns-in-Ok c = c.put_renditions.ensures ∙ (λ i. record c.args.self {
  renditions = (c.in-Ok.ensures ∙ ap (λ ds. filter (λ d. not (same d.of c.args.n)) ds) (c.renditions_of.ensures ∙ ap (λ (r : Repository). r.renditions) c.parts.ensures)) i;
})
