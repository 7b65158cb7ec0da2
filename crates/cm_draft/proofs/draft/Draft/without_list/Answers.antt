use Rattle.std.proofs.Common.{ap, ◌∙◌}
use Rattle.std.specs.Prelude.{filter, not}
use Rattle.cmis_spec.specs.Repository.{Repository, same}
use Rattle.cm_draft.proofs.draft.Draft.without_list.Goals as goal

pub returns-in-Ok : goal.returns-in-Ok
returns-in-Ok c = c.put_access.ensures ∙ (λ i. record c.args.self {
  access = (c.in-Ok.ensures ∙ ap (λ ls. filter (λ k. not (same k.at c.args.n)) ls) (c.access_of.ensures ∙ ap (λ (r : Repository). r.access) c.parts.ensures)) i;
})
