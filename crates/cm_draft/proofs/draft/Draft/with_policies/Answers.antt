use Rattle.std.proofs.Common.{◌++◌, map, ap, ◌∙◌}
use Rattle.cmis_spec.specs.Repository.{Repository}
use Rattle.cm_draft.proofs.draft.Draft.with_policies.Goals as goal

pub returns-in-Ok : goal.returns-in-Ok
returns-in-Ok c = c.put_applied.ensures ∙ (λ i. record c.args.self {
  applied = (c.in-Ok.ensures ∙ ap (λ ps. ps ++ map (λ p. record { policy = p; object = c.args.object }) c.args.policies.now)
      (c.applied_of.ensures ∙ ap (λ (r : Repository). r.applied) c.parts.ensures)) i;
})
