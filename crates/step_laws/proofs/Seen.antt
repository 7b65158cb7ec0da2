-- What is sent of an answer follows from what the caller sees.
use Rattle.std.specs.Prelude.{◌≡◌, ℕ, List, Ok}
use Rattle.std.proofs.Common.{ap, sym}
use Rattle.cm_base.specs.Judged.{◌>>=◌}
use Rattle.bind_json.specs.Replies.{shown_reply}
use Rattle.cm_call.specs.declared.reply.Reply.{Reply}
use Rattle.cm_call.specs.declared.question.Question.{Question}
use Rattle.cmis_spec.specs.Repository.{Repository}
use Rattle.cmis_spec.specs.Seen.{OfSeen}
use Rattle.cm_repo.specs.Calls.{answer_of}
use Rattle.cm_repo.specs.ServerMachine.{shown_answer}

-- the answer and the step are the same
pub sent_of_seen : (r : Repository) (u : List ℕ) (q : Question) → OfSeen (λ s. answer_of s u q) r u (answer_of r u q) → OfSeen (λ s. shown_answer s u q) r u (shown_answer r u q)
sent_of_seen r u q same other v e =
    let answer : answer_of r u q ≡ answer_of other u q = same other v e in
    let step : other.step ≡ r.step = ap (λ s. s.step) e in
    λ i. answer i >>= (λ (reply : Reply). Ok (shown_reply reply (sym step i)))
