-- Sessions that take turns over one history: each event is one step of one session, and a run is any list of events.
use Rattle.std.specs.Prelude.{ℕ, ◌+◌, ◌≤◌, ◌==◌, List, [], ◌∷◌, ◌++◌, Option, Some, None, Result, Ok, Err, length, take, if◌then◌else◌}
use Rattle.std.specs.Ordering.{nat_cmp}
use Rattle.std.specs.FinMap.Entries.{put, find}
use Rattle.cm_base.specs.declared.number.Moment.{Moment}
use Rattle.desk_model.specs.declared.entry.Entry.{Entry}
use Rattle.desk_model.specs.Histories.{replay, IsLegal, own, IsNumbered, shown_by}
use Rattle.desk_core.specs.declared.event.Event.{Event}
use Rattle.desk_core.specs.declared.event.Event.TheVariants.{Enter, Write, Look, Ask}
use Rattle.desk_core.specs.declared.event.Done.{Done}
use Rattle.desk_core.specs.declared.event.Done.TheVariants.{Entered, Wrote, Looked, Said}
use Rattle.desk_core.specs.declared.event.CoreStop.{CoreStop}
use Rattle.desk_core.specs.declared.event.CoreStop.TheVariants.{Unknown, Known, Refused}

-- what a machine means
pub record Rules (S C Q A X : Type 0) : Type 0 where
  pub next : S → Entry C → Result (S × A) X
  pub answer : S → List ℕ → Q → Result A X
  pub number : S → ℕ

-- a world: its opening, the length of the journal that it began with, its history, and for each entered session how long a prefix of the history it holds
pub record World (S C : Type 0) : Type 0 where
  pub opening : S
  pub base : ℕ
  pub journal : List (Entry C)
  pub held : List (ℕ × ℕ)

-- how long a prefix the session holds; none where it wasn't entered
abbrev pub holds : {S C : Type 0} → World S C → ℕ → Option ℕ
holds w s = find nat_cmp s w.held

-- the world with another history, of which the session holds the first n entries
abbrev pub holding : {S C : Type 0} → World S C → List (Entry C) → ℕ → ℕ → World S C
holding w h s n = record { opening = w.opening; base = w.base; journal = h; held = put nat_cmp s n w.held }

-- the state after the first n entries, and after all of them
abbrev pub state_at : {S C Q A X : Type 0} → Rules S C Q A X → World S C → ℕ → S
state_at m w n = replay m.next w.opening (take n w.journal)

abbrev pub state_now : {S C Q A X : Type 0} → Rules S C Q A X → World S C → S
state_now m w = replay m.next w.opening w.journal

-- the entry of a session's write: its next serial
abbrev pub entry_by : {S C : Type 0} → World S C → ℕ → List ℕ → Moment → C → Entry C
entry_by w s user moment call = record { session = s; serial = length (own w.base s w.journal); user = user; moment = moment; call = call }

-- what the machine says of an entry at the whole history
abbrev pub verdict : {S C Q A X : Type 0} → Rules S C Q A X → World S C → Entry C → Result A X
verdict m w e = shown_by (m.next (state_now m w) e)

-- after an entry was judged: an accepted one is the history's last, and the session then holds the whole either way
abbrev pub judged : {S C A X : Type 0} → World S C → ℕ → Entry C → Result A X → World S C
judged w s e (Ok a) = holding w (w.journal ++ e ∷ []) s (length w.journal + 1)
judged w s e (Err x) = holding w w.journal s (length w.journal)

-- only an entered session does something, and only a new one enters
abbrev pub if_entered : {A : Type 0} → Option ℕ → A → (ℕ → A) → A
if_entered None a f = a
if_entered (Some n) a f = f n

-- the world after an event
abbrev pub happens : {S C Q A X : Type 0} → Rules S C Q A X → World S C → Event C Q → World S C
happens m w (Enter s) = if_entered (holds w s) (holding w w.journal s w.base) (λ n. w)
happens m w (Write s user moment call) = if_entered (holds w s) w (λ n. judged w s (entry_by w s user moment call) (verdict m w (entry_by w s user moment call)))
happens m w (Look s) = if_entered (holds w s) w (λ n. holding w w.journal s (length w.journal))
happens m w (Ask s user question) = w

-- the answer to a write: the number after it, or its cause with the number of the whole
abbrev pub wrote : {A X : Type 0} → ℕ → ℕ → Result A X → Result (Done A) (CoreStop X)
wrote before after (Ok a) = Ok (Wrote a after)
wrote before after (Err x) = Err (Refused x before)

-- the answer to a question, with the number of what is held
abbrev pub said : {A X : Type 0} → ℕ → Result A X → Result (Done A) (CoreStop X)
said n (Ok a) = Ok (Said a n)
said n (Err x) = Err (Refused x n)

-- what an event is answered
abbrev pub told : {S C Q A X : Type 0} → Rules S C Q A X → World S C → Event C Q → Result (Done A) (CoreStop X)
told m w (Enter s) = if_entered (holds w s) (Ok (Entered (m.number (state_at m w w.base)))) (λ n. Err Known)
told m w (Write s user moment call) = if_entered (holds w s) (Err Unknown) (λ n.
    wrote (m.number (state_now m w)) (m.number (replay m.next w.opening (w.journal ++ entry_by w s user moment call ∷ []))) (verdict m w (entry_by w s user moment call)))
told m w (Look s) = if_entered (holds w s) (Err Unknown) (λ n. Ok (Looked (m.number (state_now m w))))
told m w (Ask s user question) = if_entered (holds w s) (Err Unknown) (λ n. said (m.number (state_at m w n)) (m.answer (state_at m w n) user question))

-- the world after a run
abbrev pub run : {S C Q A X : Type 0} → Rules S C Q A X → World S C → List (Event C Q) → World S C
run m w [] = w
run m w (e ∷ es) = run m (happens m w e) es

-- the answers of a run
abbrev pub answers : {S C Q A X : Type 0} → Rules S C Q A X → World S C → List (Event C Q) → List (Result (Done A) (CoreStop X))
answers m w [] = []
answers m w (e ∷ es) = told m w e ∷ answers m (happens m w e) es

-- a lawful world: its history is legal, and numbered past its beginning
pub record IsLawful {S C A X : Type 0} (next : S → Entry C → Result (S × A) X) (w : World S C) : Type 0 where
  pub legal : IsLegal next w.opening w.journal
  pub begun : w.base ≤ length w.journal
  pub numbered : IsNumbered w.base w.journal

-- what a write asks
pub record Request (C : Type 0) : Type 0 where
  pub user : List ℕ
  pub moment : Moment
  pub call : C

abbrev pub request_of : {C : Type 0} → Entry C → Request C
request_of e = record { user = e.user; moment = e.moment; call = e.call }

-- the write of session s, if the event is one and was accepted
abbrev pub accepted_by : {C Q A X : Type 0} → ℕ → Event C Q → Result (Done A) (CoreStop X) → List (Request C)
accepted_by s (Write t user moment call) (Ok (Wrote a n)) = if t == s then record { user = user; moment = moment; call = call } ∷ [] else []
accepted_by s event answer = []

-- the accepted writes of session s, in the order of the events
abbrev pub accepted : {C Q A X : Type 0} → ℕ → List (Event C Q) → List (Result (Done A) (CoreStop X)) → List (Request C)
accepted s [] ds = []
accepted s (e ∷ es) [] = []
accepted s (e ∷ es) (d ∷ ds) = accepted_by s e d ++ accepted s es ds
