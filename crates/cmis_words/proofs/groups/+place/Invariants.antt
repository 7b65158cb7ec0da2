use Rattle.std.proofs.Common.{length}
use Rattle.cmis_words.proofs.groups.+place.Given as goal

abbrev pub decreases-place : goal.decreases-place
decreases-place l = length l.sorted.now
