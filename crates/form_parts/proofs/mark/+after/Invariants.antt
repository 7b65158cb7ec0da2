use Rattle.std.proofs.Common.{length}
use Rattle.form_parts.proofs.mark.+after.Given as goal

abbrev pub decreases-after : goal.decreases-after
decreases-after l = length l.prefix.now
