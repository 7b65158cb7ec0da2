use Rattle.std.proofs.Common.{ap, ◌∙◌}
use Rattle.std.specs.Prelude.{filter, not}
use Rattle.cmis_spec.specs.Repository.{Repository, same}
use Rattle.cm_draft.proofs.draft.Draft.without_policies.Goals as goal

pub returns-in-Ok : goal.returns-in-Ok
returns-in-Ok c = c.put_applied.ensures ∙ (λ i. record c.args.self {
  applied = (c.in-Ok.ensures ∙ ap (λ ds. filter (λ d. not (same d.object c.args.n)) ds) (c.applied_of.ensures ∙ ap (λ (r : Repository). r.applied) c.parts.ensures)) i;
})
