-- The text of a reading is what is sent of its answer.
use Rattle.std.specs.Prelude.{ℕ, true, false, List, Result, Ok, Err}
use Rattle.std.proofs.Common.{◌≡◌, refl, ap}
use Rattle.std.proofs.lemmas.Bool.{both_ways}
use Rattle.serde_json.specs.Written.{compact_text}
use Rattle.cm_base.specs.declared.cause.Cause.{Cause}
use Rattle.cm_base.specs.declared.fail.Fail.{Fail}
use Rattle.cm_base.specs.declared.fail.Fail.TheVariants as fails
use Rattle.cm_base.specs.Judged.{Judged, Fails}
use Rattle.include_parts.specs.declared.replies.IncludedChildrenReply.{IncludedChildrenReply}
use Rattle.include_parts.specs.declared.replies.IncludedReply.{IncludedReply}
use Rattle.include_json.specs.Pages.{children_data, reply_data}
use Rattle.include_text.specs.Texts.{included_children_text, included_text}
use Rattle.object_json.specs.Sent.{shown_json}
use Rattle.cm_repo.specs.Sent.{page_sent, reply_sent}

no_cause : {A : Type 0} (c : Cause) (x : A) → ◌≡◌ {A = Result A Cause} (Err c) (Ok x) → ⊥
no_cause {A} c x h = both_ways false refl (ap (λ (o : Result A Cause). elim o [ Ok y ↦ true | Err d ↦ false ]) h)

no_answer : {A : Type 0} (x : A) (c : Cause) → ◌≡◌ {A = Result A Cause} (Ok x) (Err c) → ⊥
no_answer {A} x c h = both_ways false refl (ap (λ (o : Result A Cause). elim o [ Ok y ↦ false | Err d ↦ true ]) h)

ok_is : {A : Type 0} (x y : A) → ◌≡◌ {A = Result A Cause} (Ok x) (Ok y) → x ≡ y
ok_is {A} x y h = ap (λ (o : Result A Cause). elim o [ Ok z ↦ z | Err d ↦ x ]) h

cause_is : {A : Type 0} (c d : Cause) → ◌≡◌ {A = Result A Cause} (Err c) (Err d) → c ≡ d
cause_is {A} c d h = ap (λ (o : Result A Cause). elim o [ Ok z ↦ c | Err e ↦ e ]) h

-- a page of children that was written
pub children_sent : (step : ℕ) (judged : Judged IncludedChildrenReply) (text : List ℕ) → included_children_text judged ≡ Ok text
    → page_sent step judged ≡ Ok (shown_json 200 text step)
children_sent step (Err c) text h = absurd (no_cause {A = List ℕ} c text h)
children_sent step (Ok reply) text h = ap (λ (t : List ℕ). Ok (shown_json 200 t step)) (ok_is {A = List ℕ} (compact_text (children_data reply)) text h)

-- one that is refused
pub children_fail : (e : Fail) (step : ℕ) (judged : Judged IncludedChildrenReply) → Fails e (included_children_text judged) → Fails e (page_sent step judged)
children_fail (fails.Refused c) step (Ok reply) h = absurd (no_answer {A = List ℕ} (compact_text (children_data reply)) c h)
children_fail (fails.Refused c) step (Err d) h = ap (λ (e : Cause). Err e) (cause_is {A = List ℕ} d c h)
children_fail fails.Memory step judged h = tt

-- an object that was written
pub object_sent : (step : ℕ) (judged : Judged IncludedReply) (text : List ℕ) → included_text judged ≡ Ok text
    → reply_sent step judged ≡ Ok (shown_json 200 text step)
object_sent step (Err c) text h = absurd (no_cause {A = List ℕ} c text h)
object_sent step (Ok reply) text h = ap (λ (t : List ℕ). Ok (shown_json 200 t step)) (ok_is {A = List ℕ} (compact_text (reply_data reply)) text h)

-- one that is refused
pub object_fails : (e : Fail) (step : ℕ) (judged : Judged IncludedReply) → Fails e (included_text judged) → Fails e (reply_sent step judged)
object_fails (fails.Refused c) step (Ok reply) h = absurd (no_answer {A = List ℕ} (compact_text (reply_data reply)) c h)
object_fails (fails.Refused c) step (Err d) h = ap (λ (e : Cause). Err e) (cause_is {A = List ℕ} d c h)
object_fails fails.Memory step judged h = tt
