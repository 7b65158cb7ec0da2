use Rattle.std.proofs.Common.{◌≡◌, length}
use Rattle.crash_disk.specs.Leaving.{Stays}
use Rattle.crash_disk.proofs.disk_file.restore.Given as goal

abbrev pub invariant-loop-place : goal.invariant-loop-place
invariant-loop-place l = record {
  len : length l.left ≡ length l.initial.left;
  stays : Stays l.synced l.written l.place l.left;
  same : Stays l.synced l.written (length l.synced) l.initial.left → l.left ≡ l.initial.left;
}
