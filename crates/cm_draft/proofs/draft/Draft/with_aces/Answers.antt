use Rattle.std.proofs.Common.{◌≡◌, true, sym, ap, subst, ◌∙◌}
use Rattle.std.specs.Prelude.{map, find, is_some, if◌then◌else◌}
use Rattle.cmis_spec.specs.Repository.{Repository, same}
use Rattle.cm_draft.proofs.draft.Draft.with_aces.Goals as goal

pub with_member-requires : goal.with_member-requires
with_member-requires c = record {
  there = subst (λ ls. is_some (find (λ l. same l.at c.args.list.at) ls) ≡ true) (sym (c.access_of.ensures ∙ ap (λ (r : Repository). r.access) c.parts.ensures)) c.requires.there;
}

pub returns-in-Ok : goal.returns-in-Ok
returns-in-Ok c = c.put_access.ensures ∙ (λ i. record c.args.self {
  access = (c.in-Ok.ensures ∙ ap (λ ls. map (λ k. if same k.at c.args.list.at then c.args.list else k) ls) (c.access_of.ensures ∙ ap (λ (r : Repository). r.access) c.parts.ensures)) i;
})
