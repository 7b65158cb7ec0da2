use Rattle.std.proofs.Common.{◌≡◌, ◌≤◌, IsTrue}
use Rattle.disk.specs.Disks.{IsUnchanged}
use Rattle.journal_replay.specs.Replayed.{reading_of}
use Rattle.journal_replay.specs.Starts.{BeginsWithReplay}
use Rattle.journal_replay.proofs.begun.replay_rest.Given as goal

abbrev pub invariant-records : goal.invariant-records
invariant-records g l = record {
  begins : IsTrue g.K.Disk.tells → BeginsWithReplay (reading_of g.F.JournalCode.root_codec g.F.JournalCode.record_codec g.M.Restarts.opening g.M.Machine.next g.M.Restarts.adopt) l.so_far l.opening.place (g.K.Disk.told l.opening.disk).file.seen;
  file : IsTrue g.K.Disk.tells → IsUnchanged (g.K.Disk.told l.fn.opening.disk) (g.K.Disk.told l.opening.disk);
  stands_for : g.K.Disk.stands_for l.opening.disk ≡ g.K.Disk.stands_for l.fn.opening.disk;
  later : (g.K.Disk.told l.fn.opening.disk).faults ≤ (g.K.Disk.told l.opening.disk).faults;
}

abbrev pub decreases-records : goal.decreases-records
decreases-records g l = l.opening.left
