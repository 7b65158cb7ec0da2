use Rattle.std.proofs.Common.{length, arith}
use Rattle.crash_disk.proofs.Ends.{farthest_least}
use Rattle.crash_disk.proofs.disk_file.DiskFile.left.Goals as goal

pub fitted-requires : goal.fitted-requires
fitted-requires c = omega (arith, c.self.invariant, farthest_least (length c.self.inside.synced.items) c.self.inside.written.items)
