-- The words of the wire: the texts of replies, and what a head says of its session.
use Rattle.std.specs.Prelude.{ℕ, Bool, List, Option, Result}
use Rattle.cm_base.specs.declared.cause.Cause.{Cause}
use Rattle.cm_base.specs.declared.shown.Shown.{Shown}
use Rattle.cm_base.specs.declared.user.User.{User}
use Rattle.http_grammar.specs.Request.{Head}

-- the text of a reply, which may be the last of its session; of the interim reply; and of the fixed reply where memory is wanted;
-- what is shown of a cause, at a version with this number or at none; the user of a head, or the cause of its credentials;
-- the least step number that a head asks for; whether a head closes its session
pub record Wire : Type 0 where
  pub reply_text : Shown → Bool → List ℕ
  pub interim_text : List ℕ
  pub runtime_text : List ℕ
  pub cause_shown : Cause → Option ℕ → Shown
  pub caller_of : Head → List User → Result (List ℕ) Cause
  pub least_of : Head → ℕ
  pub closes : Head → Bool
