-- What the payloads of a journal replay to, and where they stop.
use Rattle.std.specs.Prelude.{◌≡◌, ℕ, List, [], ◌∷◌, Result, IsOk}
use Rattle.byte_codec.specs.Codecs.{Codec}
use Rattle.byte_codec.specs.Payloads.{Encodes}
use Rattle.desk_model.specs.declared.entry.Entry.{Entry}
use Rattle.journal_replay.specs.declared.record.Record.{Record}
use Rattle.journal_replay.specs.declared.record.Root.{Root}
use Rattle.journal_replay.specs.declared.start_stop.StartStop.{StartStop}
use Rattle.journal_replay.specs.declared.start_stop.StartStop.TheVariants.{Fault, Damaged, Stopped, Memory}
use Rattle.journal_replay.specs.Recorded.{Replay, Steps, replayed, AreSound, IsSoundAt}

-- How a journal is read: the encodings of its first payload and of the others, the state that the first tells, and the machine's steps.
pub record Reading (S C P A X : Type 0) : Type 1 where
  pub root_codec : Codec (Root P)
  pub record_codec : Codec (Record C P)
  pub opening : Root P → S
  pub steps : Steps S C P A X

-- how a journal is read, by its parts
abbrev pub reading_of : {S C P A X : Type 0} → Codec (Root P) → Codec (Record C P) → (Root P → S) → (S → Entry C → Result (S × A) X) → (S → P → S) → Reading S C P A X
reading_of roots records opening next adopt = record {
  root_codec = roots;
  record_codec = records;
  opening = opening;
  steps = record { next = next; adopt = adopt };
}

-- behind the root alone
abbrev pub at_root : {S P : Type 0} → (Root P → S) → Root P → Replay S P
at_root opening root = record { state = opening root; entries = 0; sessions = 0; people = root.people }

-- each payload is the encoding of its record
abbrev pub AreRecords : {C P : Type 0} → Codec (Record C P) → List (List ℕ) → List (Record C P) → Type 0
AreRecords codec [] [] = Unit {0}
AreRecords codec (bytes ∷ more) (r ∷ rs) = Encodes codec r bytes × AreRecords codec more rs
AreRecords codec [] (r ∷ rs) = ⊥
AreRecords codec (bytes ∷ more) [] = ⊥

-- The payloads are a root and records, each sound where it stands, and this is their replay.
pub record Replays {S C P A X : Type 0} (reading : Reading S C P A X) (payloads : List (List ℕ)) (replay : Replay S P) : Type 0 where
  pub first : List ℕ
  pub others : List (List ℕ)
  pub payloads_are : payloads ≡ first ∷ others
  pub root : Root P
  pub is_root : Encodes reading.root_codec root first
  pub records : List (Record C P)
  pub are_records : AreRecords reading.record_codec others records
  pub sound : AreSound reading.steps (at_root reading.opening root) records
  pub replay_is : replay ≡ replayed reading.steps (at_root reading.opening root) records

-- the payload is the encoding of no root
abbrev pub IsNoRoot : {S C P A X : Type 0} → Reading S C P A X → List ℕ → Type 0
IsNoRoot {P = P} reading payload = (root : Root P) → Encodes reading.root_codec root payload → ⊥

-- the payload is the encoding of no record that is sound at this state
abbrev pub IsNoRecordAt : {S C P A X : Type 0} → Reading S C P A X → S → List ℕ → Type 0
IsNoRecordAt {C = C} {P = P} reading s payload = (r : Record C P) → Encodes reading.record_codec r payload → IsSoundAt reading.steps s r → ⊥

-- The payload behind these is the encoding of no record that is sound there, and so many entries stand before it.
pub record IsStopped {S C P A X : Type 0} (reading : Reading S C P A X) (before : List (List ℕ)) (payload : List ℕ) (entries : ℕ) : Type 0 where
  pub replay : Replay S P
  pub good : Replays reading before replay
  pub entries_are : replay.entries ≡ entries
  pub bad : IsNoRecordAt reading replay.state payload

-- Why the first payload isn't taken: it is the encoding of no root. Else memory was wanted.
abbrev pub IsStoppedAtRoot : {S C P A X : Type 0} → Reading S C P A X → List ℕ → StartStop → Type 0
IsStoppedAtRoot reading payload (Stopped n) = IsNoRoot reading payload × (n ≡ 0)
IsStoppedAtRoot reading payload Memory = Unit {0}
IsStoppedAtRoot reading payload Fault = ⊥
IsStoppedAtRoot reading payload (Damaged n) = ⊥

-- Why the payload behind a replay isn't taken: it is the encoding of no record that is sound there. Else memory was wanted.
abbrev pub IsStoppedBehind : {S C P A X : Type 0} → Reading S C P A X → Replay S P → List ℕ → StartStop → Type 0
IsStoppedBehind reading replay payload (Stopped n) = IsNoRecordAt reading replay.state payload × (n ≡ replay.entries)
IsStoppedBehind reading replay payload Memory = Unit {0}
IsStoppedBehind reading replay payload Fault = ⊥
IsStoppedBehind reading replay payload (Damaged n) = ⊥

-- why an entry isn't taken behind so many: it is refused there. Else memory was wanted
abbrev pub IsRefused : {R X : Type 0} → Result R X → ℕ → StartStop → Type 0
IsRefused judged entries (Stopped n) = (IsOk judged → ⊥) × (n ≡ entries)
IsRefused judged entries Memory = Unit {0}
IsRefused judged entries Fault = ⊥
IsRefused judged entries (Damaged n) = ⊥
