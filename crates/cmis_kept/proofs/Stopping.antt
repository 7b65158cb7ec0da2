-- Why a run doesn't begin, and what a crash has left then.
use Rattle.std.proofs.Common.{◌≡◌, ◌⊎◌, inl, inr, sym, subst, ℕ, Bool, IsTrue, List}
use Rattle.outside.specs.Outside.{SinkTold, Rose}
use Rattle.disk.specs.Disks.{DiskTold}
use Rattle.disk.specs.Crashes.{LeavesSince}
use Rattle.cm_base.specs.declared.number.Moment.{Moment}
use Rattle.cmis_spec.specs.Repository.{Repository}
use Rattle.cmis_words.specs.declared.serve.Serve.{Serve}
use Rattle.journal_file.specs.Records.{IsAsBefore}
use Rattle.journal_people.specs.Told.{PeopleTold}
use Rattle.journal_people.specs.Meetings.{growing}
use Rattle.journal_replay.specs.Replayed.{Reading}
use Rattle.journal_start.specs.declared.begin_stop.BeginStop.TheVariants.{Fault, Memory}
use Rattle.journal_runs.specs.declared.kept_stop.KeptStop.{KeptStop}
use Rattle.journal_runs.specs.declared.kept_stop.KeptStop.TheVariants.{NotBegun}
use Rattle.journal_runs.specs.Begins.{StopsRun, WhereUntouched, CannotGoOn}
use Rattle.journal_runs.specs.Ends.{TellsStop, IsStarved}
use Rattle.cmis_kept.specs.Kept.{people_asked, root_of, IsStopped}

no_fault : {P : Type 0} → ◌≡◌ {A = KeptStop P} (NotBegun Memory) (NotBegun Fault) → ⊥
no_fault {P = P} e = subst (λ (x : KeptStop P). CannotGoOn 0 x) e tt

-- the reason is told, or memory was wanted for that
pub stopped : {C A X K : Type 0} (reading : Reading Repository C PeopleTold A X) (tells : Bool) (told : K → DiskTold) (asked : Serve) (moment : Moment) (disk disk' : K) (empty full : SinkTold) (status : ℕ) (stop : KeptStop PeopleTold)
    → (IsTrue tells → StopsRun reading growing (root_of moment asked) (told disk).file.seen (told disk').file.seen stop)
    → (IsTrue tells → WhereUntouched stop (LeavesSince (IsAsBefore (told disk).file.seen) (told disk) (told disk')))
    → (stop ≡ NotBegun Fault → Rose (told disk).faults (told disk').faults)
    → TellsStop (people_asked asked) stop empty full status ⊎ IsStarved empty full status
    → IsStopped reading tells told asked moment disk disk' empty full status
stopped reading tells told asked moment disk disk' empty full status stop why untouched fault (inl says) = record { stop = stop; why = why; untouched = untouched; fault = fault; says = says }
stopped reading tells told asked moment disk disk' empty full status stop why untouched fault (inr starved) = record { stop = NotBegun Memory; why = λ t. tt; untouched = λ t. tt; fault = λ e. absurd (no_fault e); says = starved }

-- at a disk that is the same
pub at_disk : {K : Type 0} (P : List ℕ → Type 0) (told : K → DiskTold) (old : DiskTold) (a b : K) → a ≡ b → LeavesSince P old (told b) → LeavesSince P old (told a)
at_disk {K = K} P told old a b e left = subst (λ (d : K). LeavesSince P old (told d)) (sym e) left
