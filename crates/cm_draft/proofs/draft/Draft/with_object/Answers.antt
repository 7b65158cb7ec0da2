use Rattle.std.proofs.Common.{◌+◌, ◌^◌, ◌<◌, ◌++◌, ◌∷◌, [], All, refl, sym, ap, subst, ◌∙◌}
use Rattle.cmis_spec.specs.Repository.{Repository}
use Rattle.cm_state.specs.Told.{object_in}
use Rattle.cm_draft.proofs.Others.{other_last}
use Rattle.cmis_spec.specs.Changes.{with_list}
use Rattle.cmis_spec.specs.Documents.{with_policies}
use Rattle.cm_draft.proofs.draft.Draft.with_object.Goals as goal

pub with_last-requires : goal.with_last-requires
with_last-requires c = record {
  above = subst (λ ls. All (λ y. y.id.0 < c.args.object.id.0) ls) (sym (c.objects_of.ensures ∙ ap (λ (r : Repository). r.objects) c.parts.ensures)) c.requires.objects;
}

pub with_list-requires : goal.with_list-requires
with_list-requires c = record {
  above = subst (λ ls. All (λ l. l.at.0 < c.args.object.id.0) ls) (sym (ap (λ (r : Repository). r.access) c.in_ok-placed.ensures)) c.requires.access;
}

pub counted-requires : goal.counted-requires
counted-requires c = record {
  room = subst (λ n. n + 1 < 2 ^ 64) (sym (ap (λ (r : Repository). r.next) c.in_ok-applied.ensures ∙ (ap (λ (r : Repository). r.next) c.in_ok-listed.ensures ∙ ap (λ (r : Repository). r.next) c.in_ok-placed.ensures))) c.requires.room;
}

pub with_objects-requires : goal.with_objects-requires
with_objects-requires c = record {
  others = λ m o. ap (λ ls. object_in ls m) (c.in-Ok.ensures ∙ ap (λ ls. ls ++ c.args.object ∷ []) (c.objects_of.ensures ∙ ap (λ (r : Repository). r.objects) c.parts.ensures)) ∙ other_last (λ y. y.id) c.args.self.objects c.args.object c.args.object.id m refl o;
}

pub returns : goal.returns
returns c = c.counted.ensures ∙ ap (λ (r : Repository). record r { next = r.next + 1 })
    (c.in_ok-applied.ensures ∙ ap (λ (r : Repository). with_policies r c.args.object.id c.args.policies.now)
    (c.in_ok-listed.ensures ∙ ap (λ (r : Repository). with_list r (record { at = c.args.object.id; aces = c.args.aces }))
    (c.in_ok-placed.ensures ∙ (λ i. record c.args.self { objects = (c.in-Ok.ensures ∙ ap (λ ls. ls ++ c.args.object ∷ []) (c.objects_of.ensures ∙ ap (λ (r : Repository). r.objects) c.parts.ensures)) i }))))
