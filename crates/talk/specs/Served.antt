-- What a session needs of a machine, and what a request asks of it.
use Rattle.std.specs.Prelude.{ℕ, Bool, List, Result, Ok, Err}
use Rattle.cm_base.specs.declared.cause.Cause.{Cause}
use Rattle.cm_base.specs.declared.shown.Shown.{Shown}
use Rattle.cm_base.specs.declared.user.User.{User}
use Rattle.http_grammar.specs.Request.{Request}
use Rattle.desk_model.specs.declared.entry.Entry.{Entry}
use Rattle.cm_base.specs.declared.asked.Asked.{Asked}
use Rattle.cm_base.specs.declared.asked.Asked.TheVariants.{Write, Question}
use Rattle.http_grammar.specs.Request.{Head}
use Rattle.http_reply.specs.Replies.{reply_text, interim_text, runtime_text, cause_shown}
use Rattle.talk.specs.Wire.{Wire}

-- what a machine means: its step, its answers, the number of a state, and the call of a request or the first cause of its arguments; and the words of the wire
pub record Kind (S C Q : Type 0) : Type 0 where
  pub next : S → Entry C → Result (S × Shown) Cause
  pub answer : S → List ℕ → Q → Result Shown Cause
  pub number : S → ℕ
  pub call : Request → Result (Asked C Q) Cause
  pub wire : Wire

-- what a request asks: nothing of the repository, where its credentials or its arguments have a cause; or a write or a question of a user, with the least step number that it asks for
pub data Ask (C Q : Type 0) : Type 0 where
  faulty : Cause → Ask C Q
  writes : List ℕ → ℕ → C → Ask C Q
  reads : List ℕ → ℕ → Q → Ask C Q

-- by its user or the cause of its credentials, its call or the first cause of its arguments, and its least number
abbrev pub ask_by : {C Q : Type 0} → Result (List ℕ) Cause → Result (Asked C Q) Cause → ℕ → Ask C Q
ask_by (Err cause) call least = faulty cause
ask_by (Ok user) (Err cause) least = faulty cause
ask_by (Ok user) (Ok (Write call)) least = writes user least call
ask_by (Ok user) (Ok (Question question)) least = reads user least question

-- what a request asks
abbrev pub ask_of : {S C Q : Type 0} → Kind S C Q → List User → Request → Ask C Q
ask_of kind users r = ask_by (kind.wire.caller_of r.head users) (kind.call r) (kind.wire.least_of r.head)

-- the words of the wire, where a head's user, its least number and whether it closes are read so
abbrev pub wire_of : (Head → List User → Result (List ℕ) Cause) → (Head → ℕ) → (Head → Bool) → Wire
wire_of user least closes = record {
  reply_text = reply_text;
  interim_text = interim_text;
  runtime_text = runtime_text;
  cause_shown = cause_shown;
  caller_of = user;
  least_of = least;
  closes = closes;
}
