-- What a journal replays to, record by record: entries, and other people.
use Rattle.std.specs.Prelude.{ℕ, ◌+◌, List, [], ◌∷◌, Result, IsOk, max}
use Rattle.desk_model.specs.declared.entry.Entry.{Entry}
use Rattle.desk_model.specs.Histories.{state_after}
use Rattle.journal_replay.specs.declared.record.Record.{Record}
use Rattle.journal_replay.specs.declared.record.Record.TheVariants.{Written, Changed}

-- what is known once a journal was replayed: the state, how many entries, one more than the greatest session, which is 0 where there is no entry, and the people that hold
pub record Replay (S P : Type 0) : Type 0 where
  pub state : S
  pub entries : ℕ
  pub sessions : ℕ
  pub people : P

-- What a machine does with records: its step, and the state where other people hold from there on.
pub record Steps (S C P A X : Type 0) : Type 0 where
  pub next : S → Entry C → Result (S × A) X
  pub adopt : S → P → S

-- behind one more entry
abbrev pub with_entry : {S C P A X : Type 0} → (S → Entry C → Result (S × A) X) → Replay S P → Entry C → Replay S P
with_entry next replay e = record {
  state = state_after replay.state (next replay.state e);
  entries = replay.entries + 1;
  sessions = max replay.sessions (e.session + 1);
  people = replay.people;
}

-- with other people from here on
abbrev pub with_people : {S P : Type 0} → (S → P → S) → Replay S P → P → Replay S P
with_people adopt replay p = record { state = adopt replay.state p; entries = replay.entries; sessions = replay.sessions; people = p }

-- behind one more record
abbrev pub with_record : {S C P A X : Type 0} → Steps S C P A X → Replay S P → Record C P → Replay S P
with_record steps replay (Written e) = with_entry steps.next replay e
with_record steps replay (Changed p) = with_people steps.adopt replay p

-- behind records
abbrev pub replayed : {S C P A X : Type 0} → Steps S C P A X → Replay S P → List (Record C P) → Replay S P
replayed steps replay [] = replay
replayed steps replay (r ∷ rs) = replayed steps (with_record steps replay r) rs

-- a record is sound at a state: an entry isn't refused there
abbrev pub IsSoundAt : {S C P A X : Type 0} → Steps S C P A X → S → Record C P → Type 0
IsSoundAt steps s (Written e) = IsOk (steps.next s e)
IsSoundAt steps s (Changed p) = Unit {0}

-- each record is sound where it stands
abbrev pub AreSound : {S C P A X : Type 0} → Steps S C P A X → Replay S P → List (Record C P) → Type 0
AreSound steps replay [] = Unit {0}
AreSound steps replay (r ∷ rs) = IsSoundAt steps replay.state r × AreSound steps (with_record steps replay r) rs
