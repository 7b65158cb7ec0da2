-- How a run over a journal in a file starts.
use Rattle.std.specs.Prelude.{◌≡◌, ℕ, List, [], ◌∷◌, ◌++◌, Result, Ok, Err}
use Rattle.journal_file.specs.declared.open_stop.OpenStop.{OpenStop}
use Rattle.journal_file.specs.declared.open_stop.OpenStop.TheVariants as openings
use Rattle.journal_file.specs.Records.{StandsFor, BeginsWith, IsDamagedAfter}
use Rattle.journal_replay.specs.declared.begun.Begun.{Begun}
use Rattle.journal_replay.specs.declared.begun.Begun.TheVariants.{Empty, Replayed}
use Rattle.journal_replay.specs.declared.start_stop.StartStop.{StartStop}
use Rattle.journal_replay.specs.declared.start_stop.StartStop.TheVariants.{Fault, Damaged, Stopped, Memory}
use Rattle.journal_replay.specs.Recorded.{Replay}
use Rattle.journal_replay.specs.Replayed.{Reading, Replays, IsStopped, IsNoRoot}

-- the disk of a journal that was opened, or that was handed back
abbrev pub disk_started : {K R : Type 0} → Result (Begun K R) (StartStop × K) → K
disk_started (Ok (Empty journal)) = journal.disk
disk_started (Ok (Replayed journal replay)) = journal.disk
disk_started (Err x) = x.1

-- the file begins with payloads that end at this place, and this is their replay
pub record BeginsWithReplay {S C P A X : Type 0} (reading : Reading S C P A X) (replay : Replay S P) (place : ℕ) (file : List ℕ) : Type 0 where
  pub payloads : List (List ℕ)
  pub begins : BeginsWith payloads place file
  pub replays : Replays reading payloads replay

-- the file stands for payloads of which this is the replay
pub record StandsForReplay {S C P A X : Type 0} (reading : Reading S C P A X) (replay : Replay S P) (file : List ℕ) : Type 0 where
  pub payloads : List (List ℕ)
  pub stands : StandsFor payloads file
  pub replays : Replays reading payloads replay

-- The file stands for no payloads, or for those of which this is the replay.
abbrev pub StartsWith : {K S C P A X : Type 0} → Reading S C P A X → Begun K (Replay S P) → List ℕ → Type 0
StartsWith reading (Empty journal) file = StandsFor [] file
StartsWith reading (Replayed journal replay) file = StandsForReplay reading replay file

-- so many entries stand among these payloads
abbrev pub HasEntries : {S C P A X : Type 0} → Reading S C P A X → List (List ℕ) → ℕ → Type 0
HasEntries reading [] n = n ≡ 0
HasEntries {S = S} {P = P} reading (first ∷ others) n = (replay : Replay S P) × Replays reading (first ∷ others) replay × (replay.entries ≡ n)

-- The file is damaged behind payloads with so many entries.
pub record IsDamagedBehind {S C P A X : Type 0} (reading : Reading S C P A X) (file : List ℕ) (entries : ℕ) : Type 0 where
  pub payloads : List (List ℕ)
  pub damaged : IsDamagedAfter payloads file
  pub counted : HasEntries reading payloads entries

-- The payload behind these isn't taken.
abbrev pub IsNotTaken : {S C P A X : Type 0} → Reading S C P A X → List (List ℕ) → List ℕ → ℕ → Type 0
IsNotTaken reading [] payload n = IsNoRoot reading payload × (n ≡ 0)
IsNotTaken reading (first ∷ others) payload n = IsStopped reading (first ∷ others) payload n

-- A payload of the file is the encoding of nothing that is sound there, and so many entries stand before it.
pub record IsStoppedIn {S C P A X : Type 0} (reading : Reading S C P A X) (file : List ℕ) (entries : ℕ) : Type 0 where
  pub before : List (List ℕ)
  pub payload : List ℕ
  pub place : ℕ
  pub begins : BeginsWith (before ++ payload ∷ []) place file
  pub not_taken : IsNotTaken reading before payload entries

-- Why a file isn't opened.
abbrev pub StopsAt : {S C P A X : Type 0} → Reading S C P A X → List ℕ → StartStop → Type 0
StopsAt reading file Fault = Unit {0}
StopsAt reading file Memory = Unit {0}
StopsAt reading file (Damaged n) = IsDamagedBehind reading file n
StopsAt reading file (Stopped n) = IsStoppedIn reading file n

-- why a file isn't read on behind so many entries
abbrev pub stop_behind : OpenStop → ℕ → StartStop
stop_behind openings.Fault entries = Fault
stop_behind (openings.Damaged count) entries = Damaged entries
stop_behind openings.Memory entries = Memory
