-- setContent: the stream that is given is a content that a document may have, and the document is found with it.
use Rattle.std.specs.Prelude.{◌≡◌, ℕ, ◌≤◌, not, ◌&&◌, List, length, Some, Ok, is_some}
use Rattle.std.proofs.Common.{refl, sym, subst, ◌∙◌, arith}
use Rattle.std.proofs.lemmas.Bool.{ltb-false}
use Rattle.cm_base.specs.declared.number.Moment.{Moment}
use Rattle.cm_base.specs.declared.object.Object.{Object}
use Rattle.cm_base.specs.declared.content.Content.{Content}
use Rattle.cm_base.specs.declared.cause.Cause.TheVariants as causes
use Rattle.call_parts.specs.declared.changes.SetContent.{SetContent}
use Rattle.cm_see.specs.Addressed.{addressed}
use Rattle.cm_state.specs.Looks.{content_at}
use Rattle.cmis_spec.specs.Repository.{Repository, longest_stream, object_at}
use Rattle.cmis_spec.specs.Well.{HasNumbers, IsWellFormed}
use Rattle.cmis_laws.proofs.Passed.{refused_not, refuse_ok}
use Rattle.wr_rules.specs.Documents.{is_too_long}
use Rattle.wr_rules.proofs.Found.{addressed_there}
use Rattle.wr_content.specs.Changed.{changed_by, filled}
use Rattle.wr_content.specs.Document.{is_barred, document_at}
use Rattle.wr_content.specs.SetContent.{judge_stream, refusal_set_content, content_set, after_set_content_of, after_set_content}
use Rattle.wr_content.proofs.Changed.{filled_keeps, filled_there}
use Rattle.wr_content.proofs.Allowed.{Passes, passes, after_is, found_after}

pub set_passes : (r : Repository) (u : List ℕ) (m : Moment) (cost : ℕ) (call : SetContent) (x : Object) → IsWellFormed r → addressed r u call.place ≡ Some x → refusal_set_content r u m cost call ≡ Ok tt → Passes r cost x (judge_stream r call x)
set_passes r u m cost call x w at h = passes r u m cost call.place call.token (judge_stream r call) x w at h

fits_content : (r : Repository) (call : SetContent) (x : Object) → judge_stream r call x ≡ Ok tt → length call.stream.pieces ≤ longest_stream
fits_content r call x h =
    let b = refuse_ok causes.StreamNot (is_barred r x) _ h in
    let e = refuse_ok causes.ContentExists (not call.overwrite && is_some (content_at r x.id)) _ b.1 in
    ltb-false longest_stream (length call.stream.pieces) (refused_not causes.StreamLong (is_too_long call.stream) e.1)

-- the changed document with its content is what the definition says, and is well formed
pub set_is : (r : Repository) (u : List ℕ) (m : Moment) (cost k : ℕ) (call : SetContent) (x changed : Object) (content : Content) → addressed r u call.place ≡ Some x → changed ≡ changed_by r u m x
    → content ≡ content_set r call x → k ≡ cost → filled r changed content k ≡ after_set_content r u m cost call
set_is r u m cost k call x changed content at e f g = (λ i. filled r (e i) (f i) (g i)) ∙ sym (after_is r u call.place (after_set_content_of r u m cost call) x at)

pub set_well : (r : Repository) (u : List ℕ) (m : Moment) (cost k : ℕ) (call : SetContent) (x changed : Object) (content : Content) → IsWellFormed r → addressed r u call.place ≡ Some x
    → refusal_set_content r u m cost call ≡ Ok tt → changed ≡ changed_by r u m x → content ≡ content_set r call x → k ≡ cost → IsWellFormed (filled r changed content k)
set_well r u m cost k call x changed content w at h e f g =
    let p = set_passes r u m cost call x w at h in
    subst IsWellFormed (λ i. filled r (sym e i) (sym f i) (sym g i))
    (filled_keeps r u m cost x w p.room (addressed_there r u call.place x w.numbers at) p.document (content_set r call x) refl (omega arith) (fits_content r call x p.others))

pub set_found : (r : Repository) (u : List ℕ) (m : Moment) (cost : ℕ) (call : SetContent) (made : Repository) (x : Object) → HasNumbers r → addressed r u call.place ≡ Some x → made ≡ after_set_content r u m cost call
    → object_at made x.id ≡ Some (changed_by r u m (document_at r u m call.place))
set_found r u m cost call made x w at e = found_after r u m call.place (after_set_content_of r u m cost call) (changed_by r u m) made x at e
    (filled_there r u m cost x (content_set r call x) (addressed_there r u call.place x w at))
