-- An addRendition that is not refused has room for its step and its number, and keeps what is well formed.
use Rattle.std.specs.Prelude.{◌≡◌, ℕ, ◌+◌, ◌<◌, ◌^◌, List, [], All, Some, Ok, unwrap_or, option_map}
use Rattle.std.proofs.Common.{refl, sym, ap, subst, ◌∙◌, arith}
use Rattle.cm_base.specs.declared.number.Moment.{Moment}
use Rattle.cm_base.specs.declared.object.Object.{Object}
use Rattle.cm_base.specs.declared.content.Rendition.{Rendition}
use Rattle.cm_base.specs.declared.log.ChangeKind.TheVariants as changes
use Rattle.rendition_parts.specs.declared.writes.AddRendition.{AddRendition}
use Rattle.cm_see.specs.Addressed.{addressed}
use Rattle.cmis_spec.specs.Repository.{Repository, object_at}
use Rattle.cmis_spec.specs.Changes.{stepped}
use Rattle.cmis_spec.specs.Well.{HasNumbers, IsWellFormed}
use Rattle.cmis_laws.proofs.Passed.{then_ok}
use Rattle.cmis_laws.proofs.Steps.{HasRoom, step_keeps, note_keeps}
use Rattle.wr_rules.specs.Rules.{judge_storage}
use Rattle.wr_rules.proofs.Found.{addressed_there}
use Rattle.wr_rules.proofs.Room.{room_of, fits_of}
use Rattle.wr_rendition.specs.AddRendition.{refusal_add_rendition, added, rendition_added, with_rendition, after_add_rendition_of, after_add_rendition}
use Rattle.wr_rendition.proofs.Kept.{rendition_keeps, above_all}

pub has_room : (r : Repository) (u : List ℕ) (cost : ℕ) (call : AddRendition) → refusal_add_rendition r u cost call ≡ Ok tt → HasRoom r cost
has_room r u cost call h = room_of r cost (then_ok (judge_storage r cost) _ h).0

-- one more step and its cost stay numbers of 64 bits
pub fits : (r : Repository) (u : List ℕ) (cost : ℕ) (call : AddRendition) → IsWellFormed r → refusal_add_rendition r u cost call ≡ Ok tt → (r.step + 1 < 2 ^ 64) × (r.cost + cost < 2 ^ 64)
fits r u cost call w h = fits_of r cost w (has_room r u cost call h)

-- ---- all

pub after_is : (r : Repository) (u : List ℕ) (m : Moment) (cost : ℕ) (call : AddRendition) (x : Object) → addressed r u call.place ≡ Some x
    → after_add_rendition r u m cost call ≡ after_add_rendition_of r m cost call x
after_is r u m cost call x at = ap (λ o. unwrap_or (option_map (after_add_rendition_of r m cost call) o) r) at

pub added_is : (r : Repository) (u : List ℕ) (m : Moment) (cost k : ℕ) (call : AddRendition) (x : Object) (d : Rendition) → addressed r u call.place ≡ Some x
    → d ≡ rendition_added r call x → k ≡ cost → added r d m k ≡ after_add_rendition r u m cost call
added_is r u m cost k call x d at e g = (λ i. added r (e i) m (g i)) ∙ sym (after_is r u m cost call x at)

pub added_well : (r : Repository) (u : List ℕ) (m : Moment) (cost k : ℕ) (call : AddRendition) (x : Object) (d : Rendition) → IsWellFormed r → addressed r u call.place ≡ Some x
    → refusal_add_rendition r u cost call ≡ Ok tt → d ≡ rendition_added r call x → k ≡ cost → IsWellFormed (added r d m k)
added_well r u m cost k call x d w at h e g =
    let made = rendition_added r call x in
    subst IsWellFormed (λ i. added r (sym e i) m (sym g i))
    (note_keeps (with_rendition (stepped r cost) made) changes.Updated x.id m []
    (rendition_keeps (stepped r cost) made (step_keeps r cost w (has_room r u cost call h)) refl (x, addressed_there r u call.place x w.numbers at) (omega (arith, w.bounds.2))))

pub added_above : (r : Repository) (call : AddRendition) (x : Object) (d : Rendition) → IsWellFormed r → d ≡ rendition_added r call x → All (λ c. c.id.0 < d.id.0) r.renditions
added_above r call x d w e = above_all r d w.renditions (ap (λ c. c.id.0) e)

-- the document is found under its number, as it was
pub added_found : (r : Repository) (u : List ℕ) (m : Moment) (cost : ℕ) (call : AddRendition) (made : Repository) (x : Object) → HasNumbers r → addressed r u call.place ≡ Some x
    → made ≡ after_add_rendition r u m cost call → object_at made x.id ≡ Some x
added_found r u m cost call made x w at e = ap (λ q. object_at q x.id) (e ∙ after_is r u m cost call x at) ∙ addressed_there r u call.place x w at
