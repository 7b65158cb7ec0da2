-- cancelCheckOut keeps what is well formed.
use Rattle.std.specs.Prelude.{◌≡◌, ℕ, ◌+◌, ◌<◌, ◌^◌, true, false, not, List, [], ◌∷◌, ◌||◌, Some, Ok, option_map, unwrap_or}
use Rattle.std.proofs.Common.{refl, sym, ap, subst, ◌∙◌}
use Rattle.std.proofs.lemmas.Bool.{both_ways}
use Rattle.cm_base.specs.declared.number.Oid.{Oid}
use Rattle.cm_base.specs.declared.number.Moment.{Moment}
use Rattle.cm_base.specs.declared.object.Object.{Object}
use Rattle.cm_base.specs.declared.access.Level.TheVariants as levels
use Rattle.cm_base.specs.declared.cause.Cause.TheVariants as causes
use Rattle.cm_types.specs.declared.definition.BaseType.TheVariants as bases
use Rattle.call_parts.specs.declared.versions.CancelCheckOut.{CancelCheckOut}
use Rattle.cm_see.specs.Addressed.{addressed}
use Rattle.cmis_spec.specs.Repository.{Repository, same, object_at, is_a}
use Rattle.cmis_spec.specs.Access.{lacks}
use Rattle.cmis_spec.specs.Removal.{among, deleted}
use Rattle.cmis_spec.specs.Changes.{stepped}
use Rattle.cmis_spec.specs.Well.{IsWellFormed}
use Rattle.cmis_laws.proofs.Lists.{by_test, same_eq}
use Rattle.cmis_laws.proofs.Entries.{not_both}
use Rattle.cmis_laws.proofs.Going.{loose_free, deleted_keeps}
use Rattle.cmis_laws.proofs.Passed.{then_ok, refuse_ok, find_ok, not_false}
use Rattle.cmis_laws.proofs.Steps.{HasRoom, step_keeps}
use Rattle.wr_rules.specs.Rules.{judge_storage}
use Rattle.wr_rules.proofs.Found.{addressed_there}
use Rattle.wr_remove.specs.CancelCheckOut.{refusal_cancel, after_cancel_of, after_cancel}
use Rattle.wr_rules.proofs.Room.{room_of, fits_of}

-- a document may go
document_goes : (r : Repository) (x : Object) → object_at r x.id ≡ Some x → is_a r bases.Document x ≡ true → (n : Oid) → among (x.id ∷ []) n ≡ true → (y : Object) × (object_at r n ≡ Some y) × (is_a r bases.Folder y ≡ false) × (is_a r bases.Policy y ≡ false)
document_goes r x there doc n h =
    let at : n ≡ x.id = same_eq n x.id (by_test (same n x.id) (λ e. e) (λ e. absurd (both_ways false refl (sym (ap (λ c. c || false) e) ∙ h)))) in
    (x, ap (object_at r) at ∙ there, not_both r x bases.Document bases.Folder refl doc, not_both r x bases.Document bases.Policy refl doc)

pub keeps_cancel : (r : Repository) (u : List ℕ) (m : Moment) (cost : ℕ) (call : CancelCheckOut) → IsWellFormed r → refusal_cancel r u cost call ≡ Ok tt → IsWellFormed (after_cancel r u m cost call)
keeps_cancel r u m cost call w h =
    let s = then_ok (judge_storage r cost) _ h in
    let a = find_ok causes.NotFound (addressed r u call.place) _ s.1 in
    let b = refuse_ok causes.Denied (lacks r u levels.Write a.0) _ a.2 in
    let c = refuse_ok causes.WrongKind (not (is_a r bases.Document a.0)) _ b.1 in
    let there : object_at r a.0.id ≡ Some a.0 = addressed_there r u call.place a.0 w.numbers a.1 in
    let room : HasRoom r cost = room_of r cost s.0 in
    subst IsWellFormed (sym (ap (λ o. unwrap_or (option_map (after_cancel_of r m cost) o) r) a.1))
    (step_keeps (deleted r m (a.0.id ∷ [])) cost (deleted_keeps r w (a.0.id ∷ []) (loose_free r w (a.0.id ∷ []) (document_goes r a.0 there (not_false (is_a r bases.Document a.0) c.0))) m) (record { steps = room.steps; bytes = room.bytes }))

-- the repository without the working copy that is addressed is the one after the call
pub cancel_is : (r : Repository) (u : List ℕ) (m : Moment) (cost : ℕ) (call : CancelCheckOut) (x : Object) → addressed r u call.place ≡ Some x
    → stepped (deleted r m (x.id ∷ [])) cost ≡ after_cancel r u m cost call
cancel_is r u m cost call x at = sym (ap (λ o. unwrap_or (option_map (after_cancel_of r m cost) o) r) at)

pub cancel_fits : (r : Repository) (u : List ℕ) (cost : ℕ) (call : CancelCheckOut) → IsWellFormed r → refusal_cancel r u cost call ≡ Ok tt → (r.step + 1 < 2 ^ 64) × (r.cost + cost < 2 ^ 64)
cancel_fits r u cost call w h = fits_of r cost w (room_of r cost (then_ok (judge_storage r cost) _ h).0)
