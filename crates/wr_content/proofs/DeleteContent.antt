-- deleteContent: the document without content is found; where there was none, the step is all that changes.
use Rattle.std.specs.Prelude.{◌≡◌, ℕ, Bool, true, false, if◌then◌else◌, List, Some, Ok, is_some}
use Rattle.std.proofs.Common.{sym, ap, subst, ◌∙◌}
use Rattle.cm_base.specs.declared.number.Moment.{Moment}
use Rattle.cm_base.specs.declared.object.Object.{Object}
use Rattle.cm_base.specs.declared.cause.Cause.TheVariants as causes
use Rattle.cm_base.specs.Judged.{refuse}
use Rattle.call_parts.specs.declared.changes.DeleteContent.{DeleteContent}
use Rattle.cm_see.specs.Addressed.{addressed}
use Rattle.cm_state.specs.Looks.{content_at}
use Rattle.cmis_spec.specs.Repository.{Repository, object_at}
use Rattle.cmis_spec.specs.Changes.{stepped}
use Rattle.cmis_spec.specs.Well.{HasNumbers, IsWellFormed}
use Rattle.cmis_laws.proofs.Steps.{step_keeps}
use Rattle.wr_rules.proofs.Found.{addressed_there}
use Rattle.wr_content.specs.Changed.{changed_by, cleared}
use Rattle.wr_content.specs.Document.{is_needed, document_at}
use Rattle.wr_content.specs.DeleteContent.{refusal_delete_content, document_rid, after_delete_content_of, after_delete_content}
use Rattle.wr_content.proofs.Changed.{cleared_keeps, cleared_there}
use Rattle.wr_content.proofs.Allowed.{Passes, passes, after_is, found_after}

pub delete_passes : (r : Repository) (u : List ℕ) (m : Moment) (cost : ℕ) (call : DeleteContent) (x : Object) → IsWellFormed r → addressed r u call.place ≡ Some x → refusal_delete_content r u m cost call ≡ Ok tt
    → Passes r cost x (refuse causes.ContentRequired (is_needed r x))
delete_passes r u m cost call x w at h = passes r u m cost call.place call.token (λ y. refuse causes.ContentRequired (is_needed r y)) x w at h

-- ---- with content

pub cleared_is : (r : Repository) (u : List ℕ) (m : Moment) (cost k : ℕ) (call : DeleteContent) (x changed : Object) → addressed r u call.place ≡ Some x → is_some (content_at r x.id) ≡ true
    → changed ≡ changed_by r u m x → k ≡ cost → cleared r changed k ≡ after_delete_content r u m cost call
cleared_is r u m cost k call x changed at there e g =
    (λ i. cleared r (e i) (g i)) ∙ (ap (λ b. if b then cleared r (changed_by r u m x) cost else stepped r cost) (sym there) ∙ sym (after_is r u call.place (after_delete_content_of r u m cost) x at))

pub cleared_well : (r : Repository) (u : List ℕ) (m : Moment) (cost k : ℕ) (call : DeleteContent) (x changed : Object) → IsWellFormed r → addressed r u call.place ≡ Some x
    → refusal_delete_content r u m cost call ≡ Ok tt → changed ≡ changed_by r u m x → k ≡ cost → IsWellFormed (cleared r changed k)
cleared_well r u m cost k call x changed w at h e g =
    let p = delete_passes r u m cost call x w at h in
    subst IsWellFormed (λ i. cleared r (sym e i) (sym g i)) (cleared_keeps r u m cost x w p.room (addressed_there r u call.place x w.numbers at) p.document)

-- ---- without content

pub stepped_is : (r : Repository) (u : List ℕ) (m : Moment) (cost k : ℕ) (call : DeleteContent) (x : Object) → addressed r u call.place ≡ Some x → is_some (content_at r x.id) ≡ false
    → k ≡ cost → stepped r k ≡ after_delete_content r u m cost call
stepped_is r u m cost k call x at none g =
    ap (stepped r) g ∙ (ap (λ b. if b then cleared r (changed_by r u m x) cost else stepped r cost) (sym none) ∙ sym (after_is r u call.place (after_delete_content_of r u m cost) x at))

pub stepped_well : (r : Repository) (u : List ℕ) (m : Moment) (cost k : ℕ) (call : DeleteContent) (x : Object) → IsWellFormed r → addressed r u call.place ≡ Some x → refusal_delete_content r u m cost call ≡ Ok tt → k ≡ cost → IsWellFormed (stepped r k)
stepped_well r u m cost k call x w at h g = subst (λ n. IsWellFormed (stepped r n)) (sym g) (step_keeps r cost w (delete_passes r u m cost call x w at h).room)

-- ---- what is found

rid_there : (r : Repository) (u : List ℕ) (m : Moment) (cost : ℕ) (x : Object) (b : Bool) → object_at r x.id ≡ Some x
    → object_at (if b then cleared r (changed_by r u m x) cost else stepped r cost) x.id ≡ Some (if b then changed_by r u m x else x)
rid_there r u m cost x true there = cleared_there r u m cost x there
rid_there r u m cost x false there = there

pub delete_found : (r : Repository) (u : List ℕ) (m : Moment) (cost : ℕ) (call : DeleteContent) (made : Repository) (x : Object) → HasNumbers r → addressed r u call.place ≡ Some x → made ≡ after_delete_content r u m cost call
    → object_at made x.id ≡ Some (document_rid r u m (document_at r u m call.place))
delete_found r u m cost call made x w at e = found_after r u m call.place (after_delete_content_of r u m cost) (document_rid r u m) made x at e
    (rid_there r u m cost x (is_some (content_at r x.id)) (addressed_there r u call.place x w at))
