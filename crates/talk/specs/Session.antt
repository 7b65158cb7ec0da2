-- One session over a history: which bytes go out for the bytes that came in. Its turns are kept with the last one first.
use Rattle.std.specs.Prelude.{◌≡◌, ℕ, ◌<◌, ◌≤◌, ◌⊎◌, nat_lt, Bool, true, false, ◌&&◌, List, [], ◌∷◌, ◌++◌, Option, Some, None, Result, Ok, Err, length, take, map, bytes_eq, codes, if◌then◌else◌}
use mathlib.Core.List.{IsPrefix}
use Rattle.cm_base.specs.declared.cause.Cause.{Cause}
use Rattle.cm_base.specs.declared.cause.Cause.TheVariants as causes
use Rattle.cm_base.specs.declared.number.Moment.{Moment}
use Rattle.cm_base.specs.declared.shown.Shown.{Shown}
use Rattle.cm_base.specs.declared.user.User.{User}
use Rattle.desk_model.specs.declared.entry.Entry.{Entry}
use Rattle.desk_model.specs.Histories.{replay, own, shown_by}
use Rattle.http_grammar.specs.declared.fault.HttpFault.{HttpFault}
use Rattle.http_grammar.specs.Request.{Head, Request}
use Rattle.http_grammar.specs.Fields.{expects_continue}
use Rattle.http_grammar.specs.First.{First, Whole, Fault, IsPending, HoldsHead}
use Rattle.http_reply.specs.Replies.{without_body}
use Rattle.talk.specs.declared.end.End.{End}
use Rattle.talk.specs.declared.end.End.TheVariants.{Ended, Bad, ReadFault, WriteFault, Starved, Unkept}
use Rattle.talk.specs.Wire.{Wire}
use Rattle.talk.specs.Served.{Kind, Ask, faulty, writes, reads, ask_of}
use Rattle.talk.specs.Requests.{Arrived, rest_after, is_last, IsOpen, AreRequests, interim_of, Due, fault_text, AtEnd, IsBad}

-- what is given to a session: the opening of its desk, the users, its number, and how long the journal was that its pass had seen
pub record Setting (S : Type 0) : Type 0 where
  pub opening : S
  pub users : List User
  pub number : ℕ
  pub before : ℕ

-- A turn: its request; how long the prefix of the history is at which it stands; of a write the moment at which it was judged,
-- and its entry where it was accepted; and the text of the reply.
pub record Turn (C : Type 0) : Type 0 where
  pub arrived : Arrived
  pub place : ℕ
  pub moment : Moment
  pub wrote : Option (Entry C)
  pub text : List ℕ

-- the requests of the turns
abbrev pub requests : {C : Type 0} → List (Turn C) → List Arrived
requests ts = map (λ t. t.arrived) ts

-- the causes that can answer HEAD, whose replies have no body (RFC 9110, section 9.3.2)
abbrev pub is_head_cause : Cause → Bool
is_head_cause causes.BadMethod = true
is_head_cause causes.WrongSecret = true
is_head_cause _ = false

-- what is shown of a cause that comes from no version
abbrev pub plain_shown : Wire → Head → Cause → Shown
plain_shown w head cause = if bytes_eq head.method (codes "HEAD") && is_head_cause cause then without_body (w.cause_shown cause None) else w.cause_shown cause None

-- what is shown, with this step number
abbrev pub with_number : ℕ → Shown → Shown
with_number n a = record { status = a.status; kind = a.kind; body = a.body; number = Some n }

-- the reply to a cause at a version with this number
abbrev pub refusal_text : Wire → Bool → Cause → ℕ → List ℕ
refusal_text w last cause n = w.reply_text (w.cause_shown cause (Some n)) last

-- the number at a prefix
abbrev pub number_at : {S C Q : Type 0} → Kind S C Q → Setting S → List (Entry C) → ℕ
number_at kind at g = kind.number (replay kind.next at.opening g)

-- the entry that the session makes as its k-th, counted from 0
abbrev pub entry_by : {S C : Type 0} → Setting S → ℕ → List ℕ → Moment → C → Entry C
entry_by at k user moment call = record { session = at.number; serial = k; user = user; moment = moment; call = call }

-- An accepted write: the prefix g ends with its entry; before the entry the number asked for isn't ahead, and the machine accepts the entry.
-- The reply is what the machine shows of the entry there, with the number after it.
pub record Accepted {S C Q : Type 0} (kind : Kind S C Q) (at : Setting S) (k : ℕ) (g : List (Entry C)) (last : Bool) (user : List ℕ) (least : ℕ) (call : C) (moment : Moment) (entry : Entry C) (text : List ℕ) : Type 0 where
  pub earlier : List (Entry C)
  pub prefix : g ≡ earlier ++ entry ∷ []
  pub entry_is : entry ≡ entry_by at k user moment call
  pub not_ahead : least ≤ number_at kind at earlier
  pub shown : Shown
  pub accepted : shown_by (kind.next (replay kind.next at.opening earlier) entry) ≡ Ok shown
  pub text_is : text ≡ kind.wire.reply_text (with_number (number_at kind at g) shown) last

-- A refused write, at the prefix g: the number asked for is ahead there, or else the machine refuses the entry there.
pub data Refused {S C Q : Type 0} (kind : Kind S C Q) (at : Setting S) (k : ℕ) (g : List (Entry C)) (last : Bool) (user : List ℕ) (least : ℕ) (call : C) (moment : Moment) (text : List ℕ) : Type 0 where
  ahead : number_at kind at g < least → text ≡ refusal_text kind.wire last (causes.StepAhead least (number_at kind at g)) (number_at kind at g) → Refused kind at k g last user least call moment text
  refused : (cause : Cause) → least ≤ number_at kind at g → shown_by (kind.next (replay kind.next at.opening g) (entry_by at k user moment call)) ≡ Err cause
      → text ≡ refusal_text kind.wire last cause (number_at kind at g) → Refused kind at k g last user least call moment text

-- an answer with the number n, or its cause
abbrev pub answer_text : Wire → Bool → ℕ → Result Shown Cause → List ℕ
answer_text w last n (Ok shown) = w.reply_text (with_number n shown) last
answer_text w last n (Err cause) = refusal_text w last cause n

-- the reply to a question at the prefix g
abbrev pub reading_text : {S C Q : Type 0} → Kind S C Q → Setting S → List (Entry C) → Bool → List ℕ → ℕ → Q → List ℕ
reading_text kind at g last user least question =
    if nat_lt (number_at kind at g) least
    then refusal_text kind.wire last (causes.StepAhead least (number_at kind at g)) (number_at kind at g)
    else answer_text kind.wire last (number_at kind at g) (kind.answer (replay kind.next at.opening g) user question)

-- What a turn does that asks this, after k entries of the session. Its prefix g has the length q, and the last turn's had the length p.
-- A cause of credentials or arguments keeps the last prefix; an accepted write has a longer one; every other turn has one that is no shorter.
abbrev pub Does : {S C Q : Type 0} → Kind S C Q → Setting S → ℕ → ℕ → ℕ → List (Entry C) → Head → Bool → Ask C Q → Option (Entry C) → Moment → List ℕ → Type 0
Does kind at k p q g head last (faulty cause) None moment text = (q ≡ p) × (text ≡ kind.wire.reply_text (plain_shown kind.wire head cause) last)
Does kind at k p q g head last (faulty cause) (Some entry) moment text = ⊥
Does kind at k p q g head last (writes user least call) (Some entry) moment text = (p < q) × Accepted kind at k g last user least call moment entry text
Does kind at k p q g head last (writes user least call) None moment text = (p ≤ q) × Refused kind at k g last user least call moment text
Does kind at k p q g head last (reads user least question) None moment text = (p ≤ q) × (text ≡ reading_text kind at g last user least question)
Does kind at k p q g head last (reads user least question) (Some entry) moment text = ⊥

-- an entry, or none, as a list
abbrev pub listed : {C : Type 0} → Option (Entry C) → List (Entry C)
listed None = []
listed (Some entry) = entry ∷ []

-- the entries of the turns
abbrev pub entries : {C : Type 0} → List (Turn C) → List (Entry C)
entries [] = []
entries (t ∷ ts) = entries ts ++ listed t.wrote

-- how long the last turn's prefix is
abbrev pub last_place : {C : Type 0} → ℕ → List (Turn C) → ℕ
last_place before [] = before
last_place before (t ∷ ts) = t.place

-- what is sent for the turns: before each reply its interim reply
abbrev pub sent : {C : Type 0} → Wire → List (Turn C) → List ℕ
sent w [] = []
sent w (t ∷ ts) = sent w ts ++ (interim_of w t.arrived.request.head ++ t.text)

-- one turn more: its prefix isn't longer than the session has seen, and it does there what it should
pub record IsTurn {S C Q : Type 0} (kind : Kind S C Q) (at : Setting S) (after : ℕ) (h : List (Entry C)) (ts : List (Turn C)) (t : Turn C) : Type 0 where
  pub within : t.place ≤ after
  pub does : Does kind at (length (entries ts)) (last_place at.before ts) t.place (take t.place h) t.arrived.request.head (is_last kind.wire (length ts) t.arrived.request.head) (ask_of kind at.users t.arrived.request) t.wrote t.moment t.text

-- they are turns over the history h
abbrev pub AreTurns : {S C Q : Type 0} → Kind S C Q → Setting S → ℕ → List (Entry C) → List (Turn C) → Type 0
AreTurns kind at after h [] = Unit {0}
AreTurns kind at after h (t ∷ ts) = AreTurns kind at after h ts × IsTurn kind at after h ts t

-- the moment at which a request is judged, if it is a write
abbrev pub timed : {C Q : Type 0} → Ask C Q → Moment → List Moment
timed (faulty cause) moment = []
timed (writes user least call) moment = moment ∷ []
timed (reads user least question) moment = []

-- the moments of the writes that reached the repository
abbrev pub moments : {S C Q : Type 0} → Kind S C Q → Setting S → List (Turn C) → List Moment
moments kind at [] = []
moments kind at (t ∷ ts) = moments kind at ts ++ timed (ask_of kind at.users t.arrived.request) t.moment

-- a session whose read failed: every whole request has its turn, and the interim reply that is due was sent
pub record IsCutOff (w : Wire) (rs : List Arrived) (rest : List ℕ) (sent output : List ℕ) : Type 0 where
  pub still_open : IsOpen w rs
  pub no_more : (rest ≡ []) ⊎ IsPending rest
  pub due : List ℕ
  pub is_due : Due w rest due
  pub output_is : output ≡ sent ++ due

-- A session whose write failed: the text that was due is that of the last turn, that of a fault, or an interim reply; a front of it was sent.
pub data IsLost {C : Type 0} (w : Wire) (ts : List (Turn C)) (rest : List ℕ) (output : List ℕ) : Type 0 where
  of_turn : (t : Turn C) (earlier : List (Turn C)) (part : List ℕ) → ts ≡ t ∷ earlier → IsPrefix part (interim_of w t.arrived.request.head ++ t.text) → output ≡ sent w earlier ++ part → IsLost w ts rest output
  of_fault : IsOpen w (requests ts) → (fault : HttpFault) → First rest (Fault fault) → (due part : List ℕ) → Due w rest due → IsPrefix part (due ++ fault_text w fault) → output ≡ sent w ts ++ part → IsLost w ts rest output
  of_interim : IsOpen w (requests ts) → (head : Head) → HoldsHead rest head → expects_continue head ≡ true → (part : List ℕ) → IsPrefix part w.interim_text → output ≡ sent w ts ++ part → IsLost w ts rest output

-- A session that wanted memory: the fixed runtime reply stands in place of a turn, or a front of it where a write failed. An interim reply that is due stands before it, or is missing.
pub record IsStarved (w : Wire) (rs : List Arrived) (rest : List ℕ) (sent output : List ℕ) (write_failed : Bool) : Type 0 where
  pub still_open : IsOpen w rs
  pub due : List ℕ
  pub is_due : (due ≡ []) ⊎ Due w rest due
  pub part : List ℕ
  pub part_is : (part ≡ w.runtime_text) ⊎ (IsPrefix part w.runtime_text × (write_failed ≡ true))
  pub output_is : output ≡ sent ++ (due ++ part)

-- nothing was done for the request that stands next, and nothing was sent for it but its interim reply
pub record IsUndone {C : Type 0} (w : Wire) (ts : List (Turn C)) (rest output : List ℕ) : Type 0 where
  pub still_open : IsOpen w (requests ts)
  pub request : Request
  pub size : ℕ
  pub first : First rest (Whole request size)
  pub output_is : output ≡ sent w ts ++ interim_of w request.head

-- of the last turn nothing was sent but its interim reply
pub record IsUnsent {C : Type 0} (w : Wire) (ts : List (Turn C)) (output : List ℕ) : Type 0 where
  pub turn : Turn C
  pub earlier : List (Turn C)
  pub turns_are : ts ≡ turn ∷ earlier
  pub output_is : output ≡ sent w earlier ++ interim_of w turn.arrived.request.head

-- How a session ends, after these turns and at the rest of its input. Where the reply that was due could not be kept, nothing is sent in its place:
-- nothing was done for its request, or the last turn was made and its text is not sent.
abbrev pub Ends : {C : Type 0} → Wire → List (Turn C) → List ℕ → Bool → List ℕ → Bool → Bool → End → Type 0
Ends w ts rest over output read_failed write_failed Ended = AtEnd w (requests ts) rest over × (output ≡ sent w ts)
Ends w ts rest over output read_failed write_failed (Bad fault) = IsBad w (requests ts) rest over fault (sent w ts) output
Ends w ts rest over output read_failed write_failed ReadFault = IsCutOff w (requests ts) rest (sent w ts) output × (read_failed ≡ true)
Ends w ts rest over output read_failed write_failed WriteFault = IsLost w ts rest output × (write_failed ≡ true)
Ends w ts rest over output read_failed write_failed Starved = IsStarved w (requests ts) rest (sent w ts) output write_failed
Ends w ts rest over output read_failed write_failed Unkept = IsUndone w ts rest output ⊎ IsUnsent w ts output

-- The session: the bytes that it was given, and whether its source has ended; the bytes that it sent; the moments of its writes;
-- whether a read and whether a write of its link failed; and its end.
-- In the end it has seen the first `after` entries of the history h. Its own entries in h are those of its turns and no others.
pub record Session {S C Q : Type 0} (kind : Kind S C Q) (at : Setting S) (after : ℕ) (h : List (Entry C)) (input : List ℕ) (over : Bool) (output : List ℕ) (times : List Moment) (read_failed write_failed : Bool) (end : End) : Type 0 where
  pub turns : List (Turn C)
  pub are_requests : AreRequests kind.wire input (requests turns)
  pub are_turns : AreTurns kind at after h turns
  pub begins : at.before ≤ after
  pub held : after ≤ length h
  pub owns : own 0 at.number h ≡ entries turns
  pub times_are : moments kind at turns ≡ times
  pub ends : Ends kind.wire turns (rest_after input (requests turns)) over output read_failed write_failed end
