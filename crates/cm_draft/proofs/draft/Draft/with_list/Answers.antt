use Rattle.std.proofs.Common.{◌<◌, ◌++◌, ◌∷◌, [], All, sym, ap, subst, ◌∙◌}
use Rattle.cmis_spec.specs.Repository.{Repository}
use Rattle.cm_draft.proofs.draft.Draft.with_list.Goals as goal

pub with_last-requires : goal.with_last-requires
with_last-requires c = record {
  above = subst (λ ls. All (λ l. l.at.0 < c.args.list.at.0) ls) (sym (c.access_of.ensures ∙ ap (λ (r : Repository). r.access) c.parts.ensures)) c.requires.above;
}

pub returns-in-Ok : goal.returns-in-Ok
returns-in-Ok c = c.put_access.ensures ∙ (λ i. record c.args.self {
  access = (c.in-Ok.ensures ∙ ap (λ ls. ls ++ c.args.list ∷ []) (c.access_of.ensures ∙ ap (λ (r : Repository). r.access) c.parts.ensures)) i;
})
