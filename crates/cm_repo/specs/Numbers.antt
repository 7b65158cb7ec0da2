-- What is shown has the number of the repository from which it was made.
use Rattle.std.specs.Prelude.{◌≡◌, ℕ, ◌==◌, Bool, false, true, if◌then◌else◌, List, length, Some, Result, Ok, Err}
use Rattle.std.proofs.Common.{refl, sym, ap, ◌∙◌}
use Rattle.std.proofs.lemmas.Bool.{both_ways}
use Rattle.cm_base.specs.declared.cause.Cause.{Cause}
use Rattle.cm_base.specs.declared.shown.Shown.{Shown}
use Rattle.cm_base.specs.Judged.{Judged, ◌>>=◌}
use Rattle.cm_call.specs.declared.write.Write.{Write}
use Rattle.cm_call.specs.declared.question.Question.{Question}
use Rattle.cm_call.specs.declared.reply.Reply.{Reply}
use Rattle.cm_call.specs.declared.reply.Reply.TheVariants as replies
use Rattle.serde_json.specs.Written.{compact_text}
use Rattle.delete_tree_parts.specs.declared.replies.DeleteTreeReply.{DeleteTreeReply}
use Rattle.call_json.specs.Left.{left_data}
use Rattle.object_json.specs.Sent.{shown_json, shown_nothing}
use Rattle.bind_json.specs.Replies.{shown_reply}
use Rattle.cmis_spec.specs.Repository.{Repository}
use Rattle.desk_model.specs.declared.entry.Entry.{Entry}
use Rattle.cm_repo.specs.Calls.{step_of, answer_of}
use Rattle.cm_repo.specs.ServerMachine.{shown_step, shown_answer}

no_cause : {A : Type 0} (c : Cause) (x : A) → ◌≡◌ {A = Result A Cause} (Err c) (Ok x) → ⊥
no_cause {A} c x h = both_ways false refl (ap (λ (o : Result A Cause). elim o [ Ok y ↦ true | Err d ↦ false ]) h)

ok_is : {A : Type 0} (x y : A) → ◌≡◌ {A = Result A Cause} (Ok x) (Ok y) → x ≡ y
ok_is {A} x y h = ap (λ (o : Result A Cause). elim o [ Ok z ↦ z | Err d ↦ x ]) h

left_has_number : (reply : DeleteTreeReply) (step : ℕ) (b : Bool) → (if b then shown_nothing step else shown_json 200 (compact_text (left_data reply)) step).number ≡ Some step
left_has_number reply step true = refl
left_has_number reply step false = refl

-- a reply has the number of the step that it was made at
reply_has_number : (reply : Reply) (step : ℕ) → (shown_reply reply step).number ≡ Some step
reply_has_number (replies.Object reply) step = refl
reply_has_number (replies.Properties reply) step = refl
reply_has_number (replies.Children reply) step = refl
reply_has_number (replies.Type reply) step = refl
reply_has_number (replies.Types reply) step = refl
reply_has_number (replies.TypeTree reply) step = refl
reply_has_number (replies.Info reply) step = refl
reply_has_number (replies.Objects reply) step = refl
reply_has_number (replies.IncludedObjects reply) step = refl
reply_has_number (replies.Parents reply) step = refl
reply_has_number (replies.Acl reply) step = refl
reply_has_number (replies.Query reply) step = refl
reply_has_number (replies.Tree reply) step = refl
reply_has_number (replies.Page reply) step = refl
reply_has_number (replies.Changes reply) step = refl
reply_has_number (replies.Content reply) step = refl
reply_has_number (replies.Included reply) step = refl
reply_has_number (replies.DeleteTree reply) step = left_has_number reply step (length reply.ids == 0)
reply_has_number (replies.Updated reply) step = refl
reply_has_number (replies.Renditions reply) step = refl
reply_has_number (replies.Actions reply) step = refl
reply_has_number replies.Nothing step = refl

abbrev told : Repository × Reply → Judged (Repository × Shown)
told made = Ok (made.0, shown_reply made.1 made.0.step)

pub step_has_number : (r t : Repository) (e : Entry Write) (a : Shown) → shown_step r e ≡ Ok (t, a) → a.number ≡ Some t.step
step_has_number r t e a h = by_step (step_of r e) h
  where
    by_step : (o : Judged (Repository × Reply)) → (o >>= told) ≡ Ok (t, a) → a.number ≡ Some t.step
    by_step (Err c) h = absurd (no_cause {A = Repository × Shown} c (t, a) h)
    by_step (Ok made) h =
        let same = ok_is {A = Repository × Shown} (made.0, shown_reply made.1 made.0.step) (t, a) h in
        sym (ap (λ (p : Repository × Shown). p.1.number) same) ∙ (reply_has_number made.1 made.0.step ∙ ap (λ (p : Repository × Shown). Some p.0.step) same)

pub answer_has_number : (r : Repository) (u : List ℕ) (q : Question) (a : Shown) → shown_answer r u q ≡ Ok a → a.number ≡ Some r.step
answer_has_number r u q a h = by_answer (answer_of r u q) h
  where
    by_answer : (o : Judged Reply) → (o >>= λ reply. Ok (shown_reply reply r.step)) ≡ Ok a → a.number ≡ Some r.step
    by_answer (Err c) h = absurd (no_cause {A = Shown} c a h)
    by_answer (Ok reply) h = sym (ap (λ (s : Shown). s.number) (ok_is {A = Shown} (shown_reply reply r.step) a h)) ∙ reply_has_number reply r.step
