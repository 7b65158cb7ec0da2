-- How a run begins behind the start of its journal.
use Rattle.std.proofs.Common.{◌≡◌, ◌≤◌, ℕ, List, [], ◌∷◌, ◌++◌, Result, Ok, Err, IfOk, IfErr, sym, ap, subst, ◌∙◌}
use Rattle.disk.specs.Disks.{FileTold, DiskTold, IsUnchanged}
use Rattle.disk.specs.Crashes.{LeavesSince}
use Rattle.journal_file.specs.Records.{IsAsBefore}
use Rattle.journal_keeper.specs.Stores.{KeeperTold}
use Rattle.journal_replay.specs.declared.record.Root.{Root}
use Rattle.journal_replay.specs.Recorded.{Replay}
use Rattle.journal_replay.specs.Replayed.{Reading}
use Rattle.journal_start.specs.declared.begin.Started.{Started}
use Rattle.journal_start.specs.declared.begin_stop.BeginStop.{BeginStop}
use Rattle.journal_start.specs.declared.begin_stop.BeginStop.TheVariants.{Fault, Damaged, Stopped, People, Memory}
use Rattle.journal_start.specs.declared.meeting.Meeting.{Meeting}
use Rattle.journal_start.specs.Starting.{BeginsBy, IsLeftByStart}
use Rattle.journal_runs.specs.declared.kept_stop.KeptStop.{KeptStop}
use Rattle.journal_runs.specs.declared.kept_stop.KeptStop.TheVariants.{NotBegun, Sessions}
use Rattle.journal_runs.specs.Begins.{BegunIn, CannotGoOn, StopsRun, WhereUntouched, disk_of_run}

-- before the first call of a run nothing changed
since_before : (P : List ℕ → Type 0) (old mid new : DiskTold) → IsUnchanged old mid → LeavesSince P mid new → LeavesSince P old new
since_before P old mid new same a = record {
  since = a.since;
  moments_are = a.moments_are ∙ ap (λ (l : List FileTold). l ++ a.since) (ap (λ (l : List FileTold). l ++ mid.file ∷ []) same.past ∙ ap (λ (f : FileTold). old.past ++ f ∷ []) same.file);
  each = a.each;
}

-- what is left of a file that is the same
pub since_same : (Left : List ℕ → List ℕ → Type 0) (old mid new : DiskTold) → IsUnchanged old mid → LeavesSince (Left mid.file.seen) mid new → LeavesSince (Left old.file.seen) old new
since_same Left old mid new same a = since_before (Left old.file.seen) old mid new same (subst (λ (f : FileTold). LeavesSince (Left f.seen) mid new) same.file a)

abbrev stop_in : {P : Type 0} → KeptStop P → BeginStop P
stop_in (NotBegun stop) = stop
stop_in Sessions = Memory

pub stop_is : {P : Type 0} (stop other : BeginStop P) → NotBegun stop ≡ NotBegun other → stop ≡ other
stop_is stop other e = ap stop_in e

-- what a run that doesn't go on tells
untouched : {P : Type 0} (sessions : ℕ) (stop : KeptStop P) (X : Type 0) → CannotGoOn sessions stop → WhereUntouched stop X
untouched sessions Sessions X g = tt
untouched sessions (NotBegun Memory) X g = tt
untouched sessions (NotBegun Fault) X g = absurd g
untouched sessions (NotBegun (Damaged n)) X g = absurd g
untouched sessions (NotBegun (Stopped n)) X g = absurd g
untouched sessions (NotBegun (People people)) X g = absurd g

no_fault : {P : Type 0} (X : Type 0) (sessions : ℕ) (stop : KeptStop P) → CannotGoOn sessions stop → stop ≡ NotBegun Fault → X
no_fault X sessions stop g e = absurd (subst (CannotGoOn sessions) e g)

pub untouched_where : {T P K : Type 0} (X : K → Type 0) (sessions : ℕ) (result : Result T (KeptStop P × K)) → IfErr result (λ x. CannotGoOn sessions x.0) → IfErr result (λ x. WhereUntouched x.0 (X x.1))
untouched_where X sessions (Ok x) g = tt
untouched_where X sessions (Err x) g = untouched sessions x.0 (X x.1) g

pub no_fault_where : {T P K : Type 0} (X : K → Type 0) (sessions : ℕ) (result : Result T (KeptStop P × K)) → IfErr result (λ x. CannotGoOn sessions x.0) → IfErr result (λ x. x.0 ≡ NotBegun Fault → X x.1)
no_fault_where X sessions (Ok x) g = tt
no_fault_where X sessions (Err x) g = no_fault (X x.1) sessions x.0 g

module _ {S C P A X : Type 0} (reading : Reading S C P A X) (judged : P → P → Meeting) (root : Root P) where
  stops_by : (old new : List ℕ) (replay : Replay S P) (stop : KeptStop P) → BeginsBy reading judged root replay old new → CannotGoOn replay.sessions stop → StopsRun reading judged root old new stop
  stops_by old new replay Sessions b g = record { replay = replay; begins = b; beyond = g }
  stops_by old new replay (NotBegun Memory) b g = tt
  stops_by old new replay (NotBegun Fault) b g = absurd g
  stops_by old new replay (NotBegun (Damaged n)) b g = absurd g
  stops_by old new replay (NotBegun (Stopped n)) b g = absurd g
  stops_by old new replay (NotBegun (People people)) b g = absurd g

  module _ {K : Type 0} (told : K → DiskTold) (under : S → S) where
    -- a run that goes on with a keeper over this journal
    begun_by : (old : DiskTold) (disk begun : K) (replay : Replay S P) (state : S) (offset : ℕ) → begun ≡ disk → BeginsBy reading judged root replay old.file.seen (told disk).file.seen
        → state ≡ under replay.state → offset ≡ replay.sessions → LeavesSince (IsLeftByStart reading root old.file.seen) old (told disk) → BegunIn reading judged root under old (told begun) state offset
    begun_by old disk begun replay state offset is begins state_is offset_is since = record {
      replay = replay;
      begins = subst (λ (d : K). BeginsBy reading judged root replay old.file.seen (told d).file.seen) (sym is) begins;
      state_is = state_is;
      offset_is = offset_is;
      since = subst (λ (d : K). LeavesSince (IsLeftByStart reading root old.file.seen) old (told d)) (sym is) since;
    }

    pub opened_begun : {E : Type 0} (old : DiskTold) (started : Started K (Replay S P)) (result : Result (S × KeeperTold K) (E × K)) → disk_of_run result ≡ started.journal.disk
        → BeginsBy reading judged root started.so_far old.file.seen (told started.journal.disk).file.seen
        → LeavesSince (IsLeftByStart reading root old.file.seen) old (told started.journal.disk) → IfOk result (λ x. x.0 ≡ under started.so_far.state) → IfOk result (λ x. x.1.offset ≡ started.so_far.sessions)
        → IfOk result (λ x. BegunIn reading judged root under old (told x.1.begun) x.0 x.1.offset)
    opened_begun old started (Ok x) is begins since state offset = begun_by old started.journal.disk x.1.begun started.so_far x.0 x.1.offset is begins state offset since
    opened_begun old started (Err e) is begins since state offset = tt

    pub opened_stops : (old : DiskTold) (started : Started K (Replay S P)) (result : Result (S × KeeperTold K) (KeptStop P × K)) → disk_of_run result ≡ started.journal.disk
        → BeginsBy reading judged root started.so_far old.file.seen (told started.journal.disk).file.seen → IfErr result (λ x. CannotGoOn started.so_far.sessions x.0)
        → IfErr result (λ x. StopsRun reading judged root old.file.seen (told x.1).file.seen x.0)
    opened_stops old started (Ok x) is begins stops = tt
    opened_stops old started (Err x) is begins stops = subst (λ (d : K). StopsRun reading judged root old.file.seen (told d).file.seen x.0) (sym is)
        (stops_by old.file.seen (told started.journal.disk).file.seen started.so_far x.0 begins stops)

    -- the same, from before the file was opened
    begun_before : (old mid new : DiskTold) (state : S) (offset : ℕ) → IsUnchanged old mid → BegunIn reading judged root under mid new state offset → BegunIn reading judged root under old new state offset
    begun_before old mid new state offset same b = record {
      replay = b.replay;
      begins = subst (λ (f : FileTold). BeginsBy reading judged root b.replay f.seen new.file.seen) same.file b.begins;
      state_is = b.state_is;
      offset_is = b.offset_is;
      since = since_same (λ (file : List ℕ). IsLeftByStart reading root file) old mid new same b.since;
    }

    pub all_before : {E : Type 0} (old mid : DiskTold) (result : Result (S × KeeperTold K) E) → IsUnchanged old mid → IfOk result (λ x. BegunIn reading judged root under mid (told x.1.begun) x.0 x.1.offset)
        → IfOk result (λ x. BegunIn reading judged root under old (told x.1.begun) x.0 x.1.offset)
    all_before old mid (Ok x) same b = begun_before old mid (told x.1.begun) x.0 x.1.offset same b
    all_before old mid (Err e) same b = tt

-- where nothing is put, nothing was before
untouched_by : {P : Type 0} (stop : KeptStop P) (X Y : Type 0) → (X → Y) → WhereUntouched stop X → WhereUntouched stop Y
untouched_by (NotBegun Fault) X Y h x = tt
untouched_by (NotBegun Memory) X Y h x = tt
untouched_by (NotBegun (Damaged n)) X Y h x = h x
untouched_by (NotBegun (Stopped n)) X Y h x = h x
untouched_by (NotBegun (People people)) X Y h x = h x
untouched_by Sessions X Y h x = tt

pub untouched_before : {T P K : Type 0} (told : K → DiskTold) (old mid : DiskTold) (result : Result T (KeptStop P × K)) → IsUnchanged old mid
    → IfErr result (λ x. WhereUntouched x.0 (LeavesSince (IsAsBefore mid.file.seen) mid (told x.1)))
    → IfErr result (λ x. WhereUntouched x.0 (LeavesSince (IsAsBefore old.file.seen) old (told x.1)))
untouched_before told old mid (Ok x) same u = tt
untouched_before told old mid (Err x) same u = untouched_by x.0 (LeavesSince (IsAsBefore mid.file.seen) mid (told x.1)) (LeavesSince (IsAsBefore old.file.seen) old (told x.1))
    (λ a. since_same IsAsBefore old mid (told x.1) same a) u
