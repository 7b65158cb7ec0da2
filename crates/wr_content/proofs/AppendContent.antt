-- appendContent: the longer content is one that a document may have, and the document is found with it.
use Rattle.std.specs.Prelude.{◌≡◌, ℕ, ◌+◌, ◌≤◌, ◌<◌, ◌^◌, List, [], length, Option, Some, None, Ok, unwrap_or, option_map}
use Rattle.std.proofs.Common.{refl, sym, subst, ◌∙◌, arith}
use Rattle.std.proofs.lemmas.Bool.{ltb-false}
use Rattle.std.proofs.lemmas.List.{length-append}
use Rattle.cm_base.specs.declared.number.Moment.{Moment}
use Rattle.cm_base.specs.declared.object.Object.{Object}
use Rattle.cm_base.specs.declared.content.Content.{Content}
use Rattle.cm_base.specs.declared.cause.Cause.TheVariants as causes
use Rattle.call_parts.specs.declared.changes.AppendContent.{AppendContent}
use Rattle.cm_see.specs.Addressed.{addressed}
use Rattle.cm_state.specs.Looks.{content_at}
use Rattle.cmis_spec.specs.Repository.{Repository, same, longest_stream, name_of, object_at}
use Rattle.cmis_spec.specs.Well.{HasNumbers, IsWellFormed}
use Rattle.cmis_laws.proofs.Lists.{found_passes, same_eq}
use Rattle.cmis_laws.proofs.Passed.{refused_not, refuse_ok}
use Rattle.wr_rules.specs.Documents.{content_of_stream}
use Rattle.wr_rules.proofs.Found.{addressed_there}
use Rattle.wr_content.specs.Changed.{changed_by, filled}
use Rattle.wr_content.specs.Document.{is_barred, document_at}
use Rattle.wr_content.specs.AppendContent.{bytes_of, grows_too_long, with_more, content_appended, judge_growth, refusal_append_content, after_append_content_of, after_append_content}
use Rattle.wr_content.proofs.Changed.{filled_keeps, filled_there}
use Rattle.wr_content.proofs.Allowed.{Passes, passes, after_is, found_after}

pub append_passes : (r : Repository) (u : List ℕ) (m : Moment) (cost : ℕ) (call : AppendContent) (x : Object) → IsWellFormed r → addressed r u call.place ≡ Some x → refusal_append_content r u m cost call ≡ Ok tt → Passes r cost x (judge_growth r call x)
append_passes r u m cost call x w at h = passes r u m cost call.place call.token (judge_growth r call) x w at h

pub fits_both : (r : Repository) (call : AppendContent) (x : Object) → judge_growth r call x ≡ Ok tt → length (bytes_of r x) + length call.stream.pieces ≤ longest_stream
fits_both r call x h =
    let b = refuse_ok causes.StreamNot (is_barred r x) _ h in
    ltb-false longest_stream (length (bytes_of r x) + length call.stream.pieces) (refused_not causes.StreamLong (grows_too_long r call x) b.1)

pub fits_word : (r : Repository) (call : AppendContent) (x : Object) → judge_growth r call x ≡ Ok tt → length (bytes_of r x) + length call.stream.pieces < 2 ^ 64
unfolding longest_stream
fits_word r call x h = omega (arith, fits_both r call x h)

-- ---- the content

abbrev appended_to : Repository → AppendContent → Object → Option Content → Content
appended_to r call x o = unwrap_or (option_map (with_more (r.step + 1) call.stream) o) (content_of_stream x.id (name_of r x) (r.step + 1) call.stream)

of_document : (r : Repository) (call : AppendContent) (x : Object) (o : Option Content) → content_at r x.id ≡ o → (appended_to r call x o).of ≡ x.id
of_document r call x None e = refl
of_document r call x (Some c) e = same_eq c.of x.id (found_passes (λ c. same c.of x.id) r.contents c e)

of_step : (r : Repository) (call : AppendContent) (x : Object) (o : Option Content) → (appended_to r call x o).step ≤ r.step + 1
of_step r call x None = omega arith
of_step r call x (Some c) = omega arith

of_size : (r : Repository) (call : AppendContent) (x : Object) (o : Option Content) → length (unwrap_or (option_map (λ c. c.stream.pieces) o) []) + length call.stream.pieces ≤ longest_stream
    → length (appended_to r call x o).stream.pieces ≤ longest_stream
of_size r call x None h = omega (arith, h)
of_size r call x (Some c) h = subst (λ n. n ≤ longest_stream) (sym (length-append c.stream.pieces call.stream.pieces)) h

-- ---- the changed document with its content is what the definition says, and is well formed

pub append_is : (r : Repository) (u : List ℕ) (m : Moment) (cost k : ℕ) (call : AppendContent) (x changed : Object) (content : Content) → addressed r u call.place ≡ Some x → changed ≡ changed_by r u m x
    → content ≡ content_appended r call x → k ≡ cost → filled r changed content k ≡ after_append_content r u m cost call
append_is r u m cost k call x changed content at e f g = (λ i. filled r (e i) (f i) (g i)) ∙ sym (after_is r u call.place (after_append_content_of r u m cost call) x at)

pub append_well : (r : Repository) (u : List ℕ) (m : Moment) (cost k : ℕ) (call : AppendContent) (x changed : Object) (content : Content) → IsWellFormed r → addressed r u call.place ≡ Some x
    → refusal_append_content r u m cost call ≡ Ok tt → changed ≡ changed_by r u m x → content ≡ content_appended r call x → k ≡ cost → IsWellFormed (filled r changed content k)
append_well r u m cost k call x changed content w at h e f g =
    let p = append_passes r u m cost call x w at h in
    let o = content_at r x.id in
    subst IsWellFormed (λ i. filled r (sym e i) (sym f i) (sym g i))
    (filled_keeps r u m cost x w p.room (addressed_there r u call.place x w.numbers at) p.document (content_appended r call x)
    (of_document r call x o refl) (of_step r call x o) (of_size r call x o (fits_both r call x p.others)))

pub append_found : (r : Repository) (u : List ℕ) (m : Moment) (cost : ℕ) (call : AppendContent) (made : Repository) (x : Object) → HasNumbers r → addressed r u call.place ≡ Some x → made ≡ after_append_content r u m cost call
    → object_at made x.id ≡ Some (changed_by r u m (document_at r u m call.place))
append_found r u m cost call made x w at e = found_after r u m call.place (after_append_content_of r u m cost call) (changed_by r u m) made x at e
    (filled_there r u m cost x (content_appended r call x) (addressed_there r u call.place x w at))
