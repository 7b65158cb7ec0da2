use Rattle.std.proofs.Common.{length}
use Rattle.cmis_words.proofs.options.+option.Given as goal

abbrev pub decreases-option : goal.decreases-option
decreases-option l = length l.options.now
