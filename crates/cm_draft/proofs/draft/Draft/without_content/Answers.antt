use Rattle.std.proofs.Common.{ap, ◌∙◌}
use Rattle.std.specs.Prelude.{filter, not}
use Rattle.cmis_spec.specs.Repository.{Repository, same}
use Rattle.cm_draft.proofs.draft.Draft.without_content.Goals as goal

pub returns-in-Ok : goal.returns-in-Ok
returns-in-Ok c = c.put_contents.ensures ∙ (λ i. record c.args.self {
  contents = (c.in-Ok.ensures ∙ ap (λ ds. filter (λ d. not (same d.of c.args.n)) ds) (c.contents_of.ensures ∙ ap (λ (r : Repository). r.contents) c.parts.ensures)) i;
})
