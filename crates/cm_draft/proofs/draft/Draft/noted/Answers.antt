use Rattle.std.proofs.Common.{◌++◌, ◌∷◌, [], ap, ◌∙◌}
use Rattle.cmis_spec.specs.Repository.{Repository}
use Rattle.cm_draft.proofs.draft.Draft.noted.Goals as goal

pub returns-in-Ok : goal.returns-in-Ok
returns-in-Ok c = c.put_log.ensures ∙ (λ i. record c.args.self {
  log = (c.in-Ok.ensures ∙ ap (λ es. es ++ record { kind = c.args.kind; object = c.args.object; moment = c.args.moment; readers = c.args.readers } ∷ [])
      (c.log.ensures ∙ ap (λ (r : Repository). r.log) c.parts.ensures)) i;
})
