use Rattle.std.proofs.Common.{ap, ◌∙◌, ◌≡◌, subst}
use Rattle.std.specs.Prelude.{IfOk, filter, not}
use Rattle.cmis_spec.specs.Repository.{Repository, same}
use Rattle.cm_state.specs.Told.{object_in}
use Rattle.cm_draft.proofs.Others.{other_less}
use Rattle.cm_draft.proofs.draft.Draft.without_object.Goals as goal

pub with_objects-requires : goal.with_objects-requires
with_objects-requires c = record {
  others = λ m o. ap (λ ls. object_in ls m) (c.in-Ok.ensures ∙ ap (λ ls. filter (λ y. not (same y.id c.args.n)) ls) (c.objects_of.ensures ∙ ap (λ (r : Repository). r.objects) c.parts.ensures)) ∙ other_less (λ y. y.id) c.args.n m o c.args.self.objects;
}

pub returns-in-Ok : goal.returns-in-Ok
returns-in-Ok c = subst (λ ls. IfOk c.with_objects.result (λ d. d ≡ record c.args.self { objects = ls })) (c.in-Ok.ensures ∙ ap (λ ls. filter (λ y. not (same y.id c.args.n)) ls) (c.objects_of.ensures ∙ ap (λ (r : Repository). r.objects) c.parts.ensures)) c.with_objects.ensures
