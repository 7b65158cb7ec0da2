use Rattle.std.proofs.Common.{◌++◌, ◌∷◌, ap, ◌∙◌}
use Rattle.std.specs.Prelude.{filter, nat_lt}
use Rattle.cmis_spec.specs.Repository.{Repository}
use Rattle.cm_draft.proofs.draft.Draft.with_content.Goals as goal

pub returns-in-Ok : goal.returns-in-Ok
returns-in-Ok c = c.put_contents.ensures ∙ (λ i. record c.args.self {
  contents = (c.in-Ok.ensures ∙ ap (λ ds. filter (λ d. nat_lt d.of.0 c.args.content.of.0) ds ++ c.args.content ∷ filter (λ d. nat_lt c.args.content.of.0 d.of.0) ds)
      (c.contents_of.ensures ∙ ap (λ (r : Repository). r.contents) c.parts.ensures)) i;
})
