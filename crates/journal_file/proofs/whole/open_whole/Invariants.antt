use Rattle.std.proofs.Common.{◌≡◌, ◌≤◌, [], IsTrue}
use Rattle.disk.specs.Disks.{IsUnchanged}
use Rattle.journal_file.specs.Records.{BeginsWith}
use Rattle.journal_file.proofs.whole.open_whole.Given as goal

abbrev pub invariant-loop-next : goal.invariant-loop-next
invariant-loop-next g l = record {
  begins : IsTrue g.K.Disk.tells → BeginsWith [] l.fn.opening.place (g.K.Disk.told l.fn.opening.disk).file.seen → BeginsWith l.payloads l.opening.place (g.K.Disk.told l.opening.disk).file.seen;
  file : IsTrue g.K.Disk.tells → IsUnchanged (g.K.Disk.told l.fn.opening.disk) (g.K.Disk.told l.opening.disk);
  stands_for : g.K.Disk.stands_for l.opening.disk ≡ g.K.Disk.stands_for l.fn.opening.disk;
  later : (g.K.Disk.told l.fn.opening.disk).faults ≤ (g.K.Disk.told l.opening.disk).faults;
}

abbrev pub decreases-loop-next : goal.decreases-loop-next
decreases-loop-next g l = l.opening.left
