-- How a run over the file of a journal begins, and why it doesn't.
use Rattle.std.specs.Prelude.{◌≡◌, ◌≤◌, ◌^◌, ℕ, List, Result, Ok, Err, None}
use Rattle.disk.specs.Disks.{DiskTold}
use Rattle.disk.specs.Crashes.{LeavesSince}
use Rattle.journal_keeper.specs.Stores.{KeeperTold, disk_of}
use Rattle.journal_replay.specs.declared.record.Root.{Root}
use Rattle.journal_replay.specs.Recorded.{Replay}
use Rattle.journal_replay.specs.Replayed.{Reading}
use Rattle.journal_start.specs.declared.begin_stop.BeginStop.{BeginStop}
use Rattle.journal_start.specs.declared.begin_stop.BeginStop.TheVariants.{Fault, Damaged, Stopped, People, Memory}
use Rattle.journal_start.specs.declared.meeting.Meeting.{Meeting}
use Rattle.journal_start.specs.Starting.{BeginsBy, StopsStart, IsLeftByStart, IfTold}
use Rattle.journal_runs.specs.declared.kept_stop.KeptStop.{KeptStop}
use Rattle.journal_runs.specs.declared.kept_stop.KeptStop.TheVariants.{NotBegun, Sessions}

-- the disk as the keeper began, or the one that was handed back
abbrev pub disk_of_run : {S K E : Type 0} → Result (S × KeeperTold K) (E × K) → K
disk_of_run (Ok x) = x.1.begun
disk_of_run (Err x) = x.1

-- a keeper that has kept nothing yet
abbrev pub IsFirst : {K : Type 0} → KeeperTold K → Type 0
IsFirst k = (disk_of k.store ≡ k.begun) × (k.unkept ≡ 0) × (k.lost ≡ None)

-- why a run doesn't go on behind a replay: the number of a new session would be too great. Else memory was wanted
abbrev pub CannotGoOn : {P : Type 0} → ℕ → KeptStop P → Type 0
CannotGoOn sessions Sessions = 2 ^ 32 ≤ sessions
CannotGoOn sessions (NotBegun Memory) = Unit {0}
CannotGoOn sessions (NotBegun Fault) = ⊥
CannotGoOn sessions (NotBegun (Damaged n)) = ⊥
CannotGoOn sessions (NotBegun (Stopped n)) = ⊥
CannotGoOn sessions (NotBegun (People people)) = ⊥

module _ {S C P A X : Type 0} (reading : Reading S C P A X) (judged : P → P → Meeting) (root : Root P) where
  -- A run has begun: its first state is that of the file's replay under the limits of the run, and what is added in the file to the number of
  -- a session is one more than the greatest there. A crash at each moment since the file was opened has left it as it was, or with what the run puts first.
  pub record BegunIn (under : S → S) (old new : DiskTold) (state : S) (offset : ℕ) : Type 0 where
    pub replay : Replay S P
    pub begins : BeginsBy reading judged root replay old.file.seen new.file.seen
    pub state_is : state ≡ under replay.state
    pub offset_is : offset ≡ replay.sessions
    pub since : LeavesSince (IsLeftByStart reading root old.file.seen) old new

  -- The journal is begun, and a session's number in it is the greatest of its type.
  pub record HasNoNumber (old new : List ℕ) : Type 0 where
    pub replay : Replay S P
    pub begins : BeginsBy reading judged root replay old new
    pub beyond : 2 ^ 32 ≤ replay.sessions

  -- Why a run doesn't begin.
  abbrev pub StopsRun : (old new : List ℕ) → KeptStop P → Type 0
  StopsRun old new (NotBegun stop) = StopsStart reading judged root old stop
  StopsRun old new Sessions = HasNoNumber old new

-- where it is told what is wrong with the file, and nothing is put
abbrev pub WhereUntouched : {P : Type 0} → KeptStop P → Type 0 → Type 0
WhereUntouched (NotBegun stop) X = IfTold stop X
WhereUntouched Sessions X = Unit {0}
