-- How a run over the file of a journal begins.
use Rattle.std.specs.Prelude.{◌≡◌, ◌⊎◌, ℕ, List, [], ◌∷◌, ◌++◌, Result, Ok, Err}
use Rattle.byte_codec.specs.Payloads.{Encodes}
use Rattle.journal_file.specs.Records.{StandsFor, IsAsBefore, IsBeforeOrAfter}
use Rattle.journal_file.specs.Told.{JournalTold}
use Rattle.journal_replay.specs.declared.record.Record.TheVariants as records
use Rattle.journal_replay.specs.declared.record.Root.{Root}
use Rattle.journal_replay.specs.declared.start_stop.StartStop.{StartStop}
use Rattle.journal_replay.specs.declared.start_stop.StartStop.TheVariants as opened
use Rattle.journal_replay.specs.Recorded.{Replay, with_people}
use Rattle.journal_replay.specs.Replayed.{Reading, Replays, at_root}
use Rattle.journal_replay.specs.Starts.{StandsForReplay, IsDamagedBehind, IsStoppedIn}
use Rattle.journal_start.specs.declared.begin.Started.{Started}
use Rattle.journal_start.specs.declared.begin_stop.BeginStop.{BeginStop}
use Rattle.journal_start.specs.declared.begin_stop.BeginStop.TheVariants.{Fault, Damaged, Stopped, People, Memory}
use Rattle.journal_start.specs.declared.meeting.Meeting.{Meeting}
use Rattle.journal_start.specs.declared.meeting.Meeting.TheVariants.{Same, Changed, Refused}
use Rattle.journal_start.specs.declared.put.Unput.{Unput}
use Rattle.journal_start.specs.declared.put.Unput.TheVariants as unputs

-- the disk of the journal after a put, or the one that was handed back
abbrev pub disk_left : {K E : Type 0} → Result (JournalTold K) (E × K) → K
disk_left (Ok journal) = journal.disk
disk_left (Err x) = x.1

-- the disk of a run that has begun, or the one that was handed back
abbrev pub disk_begun : {K R E : Type 0} → Result (Started K R) (E × K) → K
disk_begun (Ok started) = started.journal.disk
disk_begun (Err x) = x.1

-- why a journal isn't opened, as the reason why a run doesn't begin
abbrev pub stop_of : {P : Type 0} → StartStop → BeginStop P
stop_of opened.Fault = Fault
stop_of (opened.Damaged n) = Damaged n
stop_of (opened.Stopped n) = Stopped n
stop_of opened.Memory = Memory

-- why a payload isn't put, as the reason why a run doesn't begin
abbrev pub unput : {P : Type 0} → Unput → BeginStop P
unput unputs.Fault = Fault
unput unputs.Memory = Memory

-- it comes from a put: the disk has failed, or memory was wanted
abbrev pub IsUnput : {P : Type 0} → BeginStop P → Type 0
IsUnput Fault = Unit {0}
IsUnput Memory = Unit {0}
IsUnput (Damaged n) = ⊥
IsUnput (Stopped n) = ⊥
IsUnput (People people) = ⊥

module _ {S C P A X : Type 0} (reading : Reading S C P A X) where
  -- Behind no payloads the root of this run is put.
  pub record IsFresh (root : Root P) (before added : List (List ℕ)) (replay : Replay S P) : Type 0 where
    pub none : before ≡ []
    pub code : List ℕ
    pub is_root : Encodes reading.root_codec root code
    pub added_is : added ≡ code ∷ []
    pub replay_is : replay ≡ at_root reading.opening root

  -- The people of the file stay as they are, and nothing is put.
  pub record IsKept (judged : P → P → Meeting) (root : Root P) (before added : List (List ℕ)) (replay : Replay S P) : Type 0 where
    pub good : Replays reading before replay
    pub people : judged replay.people root.people ≡ Same
    pub nothing : added ≡ []

  -- The people of this run hold from here on, and their record is put.
  pub record IsChanged (judged : P → P → Meeting) (root : Root P) (before added : List (List ℕ)) (replay : Replay S P) : Type 0 where
    pub old : Replay S P
    pub good : Replays reading before old
    pub people : judged old.people root.people ≡ Changed
    pub code : List ℕ
    pub is_record : Encodes reading.record_codec (records.Changed root.people) code
    pub added_is : added ≡ code ∷ []
    pub replay_is : replay ≡ with_people reading.steps.adopt old root.people

  -- A run has begun: behind the payloads for which the old file stood these were put, and this is the replay of all.
  pub record BeginsBy (judged : P → P → Meeting) (root : Root P) (replay : Replay S P) (old new : List ℕ) : Type 0 where
    pub before : List (List ℕ)
    pub stood : StandsFor before old
    pub added : List (List ℕ)
    pub puts : IsFresh root before added replay ⊎ IsKept judged root before added replay ⊎ IsChanged judged root before added replay
    pub stands : StandsFor (before ++ added) new
    pub replays : Replays reading (before ++ added) replay

  -- The file stands for payloads with these people, who exclude those of the run.
  pub record IsRefused (judged : P → P → Meeting) (root : Root P) (people : P) (file : List ℕ) : Type 0 where
    pub replay : Replay S P
    pub stands : StandsForReplay reading replay file
    pub people_are : replay.people ≡ people
    pub refused : judged people root.people ≡ Refused

  -- Why a run doesn't begin.
  abbrev pub StopsStart : (P → P → Meeting) → Root P → List ℕ → BeginStop P → Type 0
  StopsStart judged root file Fault = Unit {0}
  StopsStart judged root file Memory = Unit {0}
  StopsStart judged root file (Damaged n) = IsDamagedBehind reading file n
  StopsStart judged root file (Stopped n) = IsStoppedIn reading file n
  StopsStart judged root file (People people) = IsRefused judged root people file

  -- what a run may put behind these payloads: the root where there are none, and the record of its people behind others
  abbrev pub MayPut : Root P → List (List ℕ) → List ℕ → Type 0
  MayPut root before code =
      ((before ≡ []) × Encodes reading.root_codec root code)
      ⊎ ((replay : Replay S P) × Replays reading before replay × Encodes reading.record_codec (records.Changed root.people) code)

  -- the file stands for the payloads for which the old one stood, or for these and what the run puts
  pub record PutsOne (root : Root P) (old file : List ℕ) : Type 0 where
    pub before : List (List ℕ)
    pub stood : StandsFor before old
    pub code : List ℕ
    pub may : MayPut root before code
    pub left : IsBeforeOrAfter before (code ∷ []) file

  -- The file is as the old one was, or as empty; or it stands for what the old one stood for, or for that and what the run puts.
  abbrev pub IsLeftByStart : Root P → List ℕ → List ℕ → Type 0
  IsLeftByStart root old file = IsAsBefore old file ⊎ PutsOne root old file

-- where it is told what is wrong with the file
abbrev pub IfTold : {P : Type 0} → BeginStop P → Type 0 → Type 0
IfTold Fault X = Unit {0}
IfTold Memory X = Unit {0}
IfTold (Damaged n) X = X
IfTold (Stopped n) X = X
IfTold (People people) X = X
