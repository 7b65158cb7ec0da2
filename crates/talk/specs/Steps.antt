-- One step of a session: what it does with the bytes that it then has, what it sends, and how it leaves the desk.
use Rattle.std.specs.Prelude.{◌≡◌, ◌≢◌, ℕ, ◌+◌, ◌≤◌, ◌⊎◌, Bool, true, false, List, [], ◌++◌, length, drop, Option, Some, None}
use Rattle.outside.specs.Clocks.{Words}
use Rattle.outside.specs.Outside.{SourceTold, SinkTold, Gave, Took, Rose}
use Rattle.cm_base.specs.declared.user.User.{User}
use Rattle.desk_model.specs.Desks.{Known}
use Rattle.http_grammar.specs.declared.fault.HttpFault.{HttpFault}
use Rattle.http_grammar.specs.declared.fault.HttpFault.TheVariants.{Cut}
use Rattle.http_grammar.specs.Request.{Head, Request}
use Rattle.http_grammar.specs.Fields.{expects_continue}
use Rattle.http_grammar.specs.First.{First, Whole, Fault, IsPending, HoldsHead}
use Rattle.http_wire.specs.Answers.{NoneDue, BadAnswer}
use Rattle.http_wire.specs.Buffers.{BufferTold}
use Rattle.http_reply.specs.Sent.{TookFront}
use Rattle.talk.specs.declared.end.End.{End}
use Rattle.talk.specs.declared.end.End.TheVariants.{Ended, Bad, ReadFault, WriteFault, Starved, Unkept}
use Rattle.talk.specs.Wire.{Wire}
use Rattle.talk.specs.Served.{Kind, ask_of}
use Rattle.talk.specs.Requests.{is_last, fault_text}
use Rattle.talk.specs.Settled.{IsWithin}
use Rattle.talk.specs.Turned.{Turned, Stays, TurnUnkept}

-- a front of the text was taken, and the write behind it failed
abbrev pub Lost : SinkTold → SinkTold → List ℕ → Type 0
Lost old new text = TookFront old new text × Rose old.faults new.faults

-- the text was taken whole, or a front of it
abbrev pub SentOrLost : SinkTold → SinkTold → List ℕ → Type 0
SentOrLost old new text = Took old new text ⊎ Lost old new text

-- a fault of the bytes is answered; a cut is not, since nothing is sent then
abbrev pub Refuses : Wire → HttpFault → SinkTold → SinkTold → End → Type 0
Refuses w fault old new Ended = ⊥
Refuses w fault old new (Bad shown) = (shown ≡ fault) × Took old new (fault_text w fault)
Refuses w fault old new ReadFault = ⊥
Refuses w fault old new WriteFault = (fault ≢ Cut) × Lost old new (fault_text w fault)
Refuses w fault old new Starved = (fault ≢ Cut) × SentOrLost old new w.runtime_text
Refuses w fault old new Unkept = ⊥

-- the interim reply is sent, and the session goes on; or that write fails
abbrev pub SendsContinue : List ℕ → SinkTold → SinkTold → Option End → Type 0
SendsContinue text old new None = Took old new text
SendsContinue text old new (Some Ended) = ⊥
SendsContinue text old new (Some (Bad fault)) = ⊥
SendsContinue text old new (Some ReadFault) = ⊥
SendsContinue text old new (Some WriteFault) = Lost old new text
SendsContinue text old new (Some Starved) = ⊥
SendsContinue text old new (Some Unkept) = ⊥

-- a session at one time: what its pass knows and how many entries of that are settled, if not more, the words of the clock, and how many replies were sent
pub record Standing (S C : Type 0) : Type 0 where
  pub known : Known S C
  pub sure : ℕ
  pub words : Option Words
  pub count : ℕ

-- the turn of a request, whose reply is this text
abbrev pub TakesTurn : {S C Q : Type 0} → Kind S C Q → List User → Request → Standing S C → List ℕ → Standing S C → Type 0
TakesTurn kind users r a text b = Turned kind users r.head (is_last kind.wire a.count r.head) (ask_of kind users r) a.known a.words text b.known b.words

-- the reply to a request shows only what is settled
abbrev pub ShowsSettled : {S C Q : Type 0} → Kind S C Q → List User → Request → Standing S C → Type 0
ShowsSettled kind users r b = IsWithin b.sure (ask_of kind users r) (length b.known.seen)

-- a request is answered: the session goes on, or ends
abbrev pub AnswersRequest : {S C Q : Type 0} → Kind S C Q → List User → Request → Standing S C → SinkTold → Standing S C → SinkTold → Option End → Type 0
AnswersRequest kind users r a old b new None =
    (is_last kind.wire a.count r.head ≡ false) × (b.count ≡ a.count + 1) × (text : List ℕ) × TakesTurn kind users r a text b × ShowsSettled kind users r b × Took old new text
AnswersRequest kind users r a old b new (Some Ended) = (is_last kind.wire a.count r.head ≡ true) × (text : List ℕ) × TakesTurn kind users r a text b × ShowsSettled kind users r b × Took old new text
AnswersRequest kind users r a old b new (Some WriteFault) = (text : List ℕ) × TakesTurn kind users r a text b × ShowsSettled kind users r b × Lost old new text
AnswersRequest kind users r a old b new (Some Starved) = Stays a.known b.known a.words b.words × SentOrLost old new kind.wire.runtime_text
AnswersRequest kind users r a old b new (Some Unkept) =
    TurnUnkept kind users r.head (is_last kind.wire a.count r.head) (ask_of kind users r) a.known a.words b.known b.words × (new ≡ old)
AnswersRequest kind users r a old b new (Some ReadFault) = ⊥
AnswersRequest kind users r a old b new (Some (Bad fault)) = ⊥

-- the bytes hold a head that expects the interim reply, and has none yet
pub record ExpectsInterim (answered : Bool) (bytes : List ℕ) : Type 0 where
  pub head : Head
  pub holds : HoldsHead bytes head
  pub expects : expects_continue head ≡ true
  pub unanswered : answered ≡ false

-- the interim reply is sent: the session goes on with the same bytes
pub record SendsInterim {S C : Type 0} (w : Wire) (answered : Bool) (bytes : List ℕ) (a : Standing S C) (old : SinkTold) (b : Standing S C) (new : SinkTold) (after : BufferTold) : Type 0 where
  pub interim : ExpectsInterim answered bytes
  pub after_is : after ≡ record { bytes = bytes; answered = true }
  pub same : b ≡ a
  pub took : Took old new w.interim_text

-- a whole request stands at the front of the bytes, and is answered
pub record SendsReply {S C Q : Type 0} (kind : Kind S C Q) (users : List User) (answered : Bool) (bytes : List ℕ) (a : Standing S C) (old : SinkTold) (b : Standing S C) (new : SinkTold) (after : BufferTold) (end : Option End) : Type 0 where
  pub request : Request
  pub size : ℕ
  pub first : First bytes (Whole request size)
  pub none_due : NoneDue answered bytes
  pub after_is : after ≡ record { bytes = drop size bytes; answered = false }
  pub answers : AnswersRequest kind users request a old b new end

-- The session goes on after an interim reply or a reply. It ends after a reply that closes, or where its input ends; by a fault of the bytes;
-- by a read or a write that failed; for want of memory; or where a reply could not be kept.
abbrev pub StepDoes : {S C Q : Type 0} → Kind S C Q → List User → Bool → List ℕ → SourceTold → SourceTold → Standing S C → SinkTold → Standing S C → SinkTold → BufferTold → Option End → Type 0
StepDoes kind users answered bytes source source' a old b new after None =
    SendsInterim kind.wire answered bytes a old b new after ⊎ SendsReply kind users answered bytes a old b new after None
StepDoes kind users answered bytes source source' a old b new after (Some Ended) =
    SendsReply kind users answered bytes a old b new after (Some Ended) ⊎ ((bytes ≡ []) × (source'.ended ≡ true) × (b ≡ a) × (new ≡ old))
StepDoes kind users answered bytes source source' a old b new after (Some (Bad fault)) =
    BadAnswer answered bytes source' fault × (b ≡ a) × Took old new (fault_text kind.wire fault)
StepDoes kind users answered bytes source source' a old b new after (Some ReadFault) =
    ((bytes ≡ []) ⊎ IsPending bytes) × NoneDue answered bytes × Rose source.faults source'.faults × (b ≡ a) × (new ≡ old)
StepDoes kind users answered bytes source source' a old b new after (Some WriteFault) =
    (ExpectsInterim answered bytes × (b ≡ a) × Lost old new kind.wire.interim_text)
    ⊎ (SendsReply kind users answered bytes a old b new after (Some WriteFault)
    ⊎ ((fault : HttpFault) × First bytes (Fault fault) × NoneDue answered bytes × (b ≡ a) × Lost old new (fault_text kind.wire fault)))
StepDoes kind users answered bytes source source' a old b new after (Some Starved) = Stays a.known b.known a.words b.words × SentOrLost old new kind.wire.runtime_text
StepDoes kind users answered bytes source source' a old b new after (Some Unkept) = SendsReply kind users answered bytes a old b new after (Some Unkept)

-- one step: the bytes that the source gave, and what the step does with those that it then has
pub record Steps {S C Q : Type 0} (kind : Kind S C Q) (users : List User) (before : BufferTold) (source : SourceTold) (a : Standing S C) (old : SinkTold) (after : BufferTold) (source' : SourceTold) (b : Standing S C) (new : SinkTold) (end : Option End) : Type 0 where
  pub got : List ℕ
  pub gave : Gave source source' got
  pub does : StepDoes kind users before.answered (before.bytes ++ got) source source' a old b new after end
  pub later : a.sure ≤ b.sure
