use Rattle.std.proofs.Common.{length}
use Rattle.cm_see.proofs.path.+walk.Given as goal

abbrev pub decreases-walk : goal.decreases-walk
decreases-walk l = length l.names.now
