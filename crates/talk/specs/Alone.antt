-- A session alone: its output, its end and its history, by its input and the words of a clock. Nobody else writes, and nothing is left open.
use Rattle.std.specs.Prelude.{◌≡◌, ℕ, nat_lt, Bool, true, List, [], ◌∷◌, ◌++◌, Result, Ok, Err, length, if◌then◌else◌}
use mathlib.Core.List.{IsPrefix}
use Rattle.outside.specs.Clocks.{Words, first_word, rest_words}
use Rattle.cm_base.specs.declared.cause.Cause.{Cause}
use Rattle.cm_base.specs.declared.cause.Cause.TheVariants as causes
use Rattle.cm_base.specs.declared.shown.Shown.{Shown}
use Rattle.cm_base.specs.declared.user.User.{User}
use Rattle.desk_model.specs.declared.entry.Entry.{Entry}
use Rattle.desk_model.specs.Clocks.{moment_of}
use Rattle.desk_model.specs.Histories.{replay, shown_by}
use Rattle.http_grammar.specs.declared.fault.HttpFault.{HttpFault}
use Rattle.http_grammar.specs.Request.{Head}
use Rattle.http_grammar.specs.Fields.{expects_continue}
use Rattle.http_grammar.specs.First.{First, Fault, HoldsHead}
use Rattle.talk.specs.declared.end.End.{End}
use Rattle.talk.specs.declared.end.End.TheVariants.{Ended, Bad, ReadFault, WriteFault, Starved, Unkept}
use Rattle.talk.specs.Wire.{Wire}
use Rattle.talk.specs.Served.{Kind, Ask, faulty, writes, reads, ask_of}
use Rattle.talk.specs.Requests.{Arrived, rest_after, is_last, IsOpen, AreRequests, interim_of, Due, fault_text, AtEnd, IsBad}
use Rattle.talk.specs.Session.{Setting, plain_shown, with_number, refusal_text, number_at, entry_by, reading_text, IsStarved}

-- how far a session alone is: its history, what it has sent, and the words that its clock is still to give
pub record Progress (C : Type 0) : Type 0 where
  pub journal : List (Entry C)
  pub output : List ℕ
  pub words : Words

-- the setting of a session alone
abbrev pub alone_at : {S : Type 0} → S → List User → Setting S
alone_at opening users = record { opening = opening; users = users; number = 0; before = 0 }

-- one reply more
abbrev pub replied : {C : Type 0} → Progress C → List ℕ → Progress C
replied a text = record { journal = a.journal; output = a.output ++ text; words = a.words }

-- one reply more, to a write that took the next word
abbrev pub replied_late : {C : Type 0} → Progress C → List ℕ → Progress C
replied_late a text = record { journal = a.journal; output = a.output ++ text; words = rest_words a.words }

-- one reply more, to a write that the machine has judged
abbrev pub judged : {S C Q : Type 0} → Kind S C Q → Setting S → Progress C → List ℕ → Bool → Entry C → Result Shown Cause → Progress C
judged kind at a interim last entry (Ok shown) =
    record { journal = a.journal ++ entry ∷ []; output = a.output ++ (interim ++ kind.wire.reply_text (with_number (number_at kind at (a.journal ++ entry ∷ [])) shown) last); words = rest_words a.words }
judged kind at a interim last entry (Err cause) = replied_late a (interim ++ refusal_text kind.wire last cause (number_at kind at a.journal))

-- the entry of a write: it takes the next word
abbrev pub next_entry : {S C : Type 0} → Setting S → Progress C → List ℕ → C → Entry C
next_entry at a user call = entry_by at (length a.journal) user (moment_of (first_word a.words)) call

-- after a turn that asks this
abbrev pub after_ask : {S C Q : Type 0} → Kind S C Q → Setting S → Progress C → Head → Bool → Ask C Q → Progress C
after_ask kind at a head last (faulty cause) = replied a (interim_of kind.wire head ++ kind.wire.reply_text (plain_shown kind.wire head cause) last)
after_ask kind at a head last (writes user least call) =
    if nat_lt (number_at kind at a.journal) least
    then replied_late a (interim_of kind.wire head ++ refusal_text kind.wire last (causes.StepAhead least (number_at kind at a.journal)) (number_at kind at a.journal))
    else judged kind at a (interim_of kind.wire head) last (next_entry at a user call) (shown_by (kind.next (replay kind.next at.opening a.journal) (next_entry at a user call)))
after_ask kind at a head last (reads user least question) = replied a (interim_of kind.wire head ++ reading_text kind at a.journal last user least question)

-- after these requests
abbrev pub after_requests : {S C Q : Type 0} → Kind S C Q → Setting S → Words → List Arrived → Progress C
after_requests kind at words [] = record { journal = []; output = []; words = words }
after_requests kind at words (r ∷ rs) =
    after_ask kind at (after_requests kind at words rs) r.request.head (is_last kind.wire (length rs) r.request.head) (ask_of kind at.users r.request)

-- how a session alone ends: well, or by a fault of its bytes
abbrev pub EndsAlone : Wire → List Arrived → List ℕ → List ℕ → List ℕ → End → Type 0
EndsAlone w rs rest sent output Ended = AtEnd w rs rest true × (output ≡ sent)
EndsAlone w rs rest sent output (Bad fault) = IsBad w rs rest true fault sent output
EndsAlone w rs rest sent output ReadFault = ⊥
EndsAlone w rs rest sent output WriteFault = ⊥
EndsAlone w rs rest sent output Starved = ⊥
EndsAlone w rs rest sent output Unkept = ⊥

-- the session alone on this input, over an opening with these users and a clock with these words
pub record Alone {S C Q : Type 0} (kind : Kind S C Q) (opening : S) (users : List User) (words : Words) (input output : List ℕ) (end : End) (h : List (Entry C)) : Type 0 where
  pub arrived : List Arrived
  pub are_requests : AreRequests kind.wire input arrived
  pub history : h ≡ (after_requests kind (alone_at opening users) words arrived).journal
  pub ends : EndsAlone kind.wire arrived (rest_after input arrived) (after_requests kind (alone_at opening users) words arrived).output output end

-- it ends well, or by a fault of its bytes
abbrev pub IsFinal : End → Type 0
IsFinal Ended = Unit {0}
IsFinal (Bad fault) = Unit {0}
IsFinal ReadFault = ⊥
IsFinal WriteFault = ⊥
IsFinal Starved = ⊥
IsFinal Unkept = ⊥

-- Of a session alone whose write failed, after these requests: the replies before were sent whole, and a front of the text that was due behind them,
-- which is the reply to the last request, the text of a fault, or an interim reply.
pub data LosesAlone {S C Q : Type 0} (kind : Kind S C Q) (at : Setting S) (words : Words) (rs : List Arrived) (rest output : List ℕ) : Type 0 where
  in_reply : (r : Arrived) (earlier : List Arrived) (text part : List ℕ) → rs ≡ r ∷ earlier → (after_requests kind at words rs).output ≡ (after_requests kind at words earlier).output ++ text
      → IsPrefix part text → output ≡ (after_requests kind at words earlier).output ++ part → LosesAlone kind at words rs rest output
  in_fault : IsOpen kind.wire rs → (fault : HttpFault) → First rest (Fault fault) → (due part : List ℕ) → Due kind.wire rest due → IsPrefix part (due ++ fault_text kind.wire fault)
      → output ≡ (after_requests kind at words rs).output ++ part → LosesAlone kind at words rs rest output
  in_interim : IsOpen kind.wire rs → (head : Head) → HoldsHead rest head → expects_continue head ≡ true → (part : List ℕ) → IsPrefix part kind.wire.interim_text
      → output ≡ (after_requests kind at words rs).output ++ part → LosesAlone kind at words rs rest output

-- the session alone whose write failed, on the input that it was given: it has written what the requests ask, also that whose reply was lost
pub record LostAlone {S C Q : Type 0} (kind : Kind S C Q) (opening : S) (users : List User) (words : Words) (input output : List ℕ) (h : List (Entry C)) : Type 0 where
  pub arrived : List Arrived
  pub are_requests : AreRequests kind.wire input arrived
  pub history : h ≡ (after_requests kind (alone_at opening users) words arrived).journal
  pub loses : LosesAlone kind (alone_at opening users) words arrived (rest_after input arrived) output

-- the session alone that wanted memory, on the input that it was given: behind the replies to these requests stands the fixed reply, in place of the next one; the request whose reply it replaces has written nothing
pub record StarvedAlone {S C Q : Type 0} (kind : Kind S C Q) (opening : S) (users : List User) (words : Words) (input output : List ℕ) (write_failed : Bool) (h : List (Entry C)) : Type 0 where
  pub arrived : List Arrived
  pub are_requests : AreRequests kind.wire input arrived
  pub history : h ≡ (after_requests kind (alone_at opening users) words arrived).journal
  pub starves : IsStarved kind.wire arrived (rest_after input arrived) (after_requests kind (alone_at opening users) words arrived).output output write_failed
