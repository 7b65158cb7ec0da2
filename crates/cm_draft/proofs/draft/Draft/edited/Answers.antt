use Rattle.std.proofs.Common.{◌≡◌, true, refl, sym, ap, subst, ◌∙◌}
use Rattle.std.specs.Prelude.{IfOk, map, is_some, if◌then◌else◌}
use Rattle.cmis_spec.specs.Repository.{Repository, same}
use Rattle.cm_state.specs.Told.{object_in}
use Rattle.cm_draft.proofs.Others.{other_put}
use Rattle.cm_draft.proofs.draft.Draft.edited.Goals as goal

pub with_member-requires : goal.with_member-requires
with_member-requires c = record {
  there = subst (λ ls. is_some (object_in ls c.args.object.id) ≡ true) (sym (c.objects_of.ensures ∙ ap (λ (r : Repository). r.objects) c.parts.ensures)) c.requires.there;
}

pub with_objects-requires : goal.with_objects-requires
with_objects-requires c = record {
  others = λ m o. ap (λ ls. object_in ls m) (c.in-Ok.ensures ∙ ap (λ ls. map (λ y. if same y.id c.args.object.id then c.args.object else y) ls) (c.objects_of.ensures ∙ ap (λ (r : Repository). r.objects) c.parts.ensures)) ∙ other_put (λ y. y.id) c.args.object c.args.object.id m refl o c.args.self.objects;
}

pub returns-in-Ok : goal.returns-in-Ok
returns-in-Ok c = subst (λ ls. IfOk c.with_objects.result (λ d. d ≡ record c.args.self { objects = ls })) (c.in-Ok.ensures ∙ ap (λ ls. map (λ y. if same y.id c.args.object.id then c.args.object else y) ls) (c.objects_of.ensures ∙ ap (λ (r : Repository). r.objects) c.parts.ensures)) c.with_objects.ensures
