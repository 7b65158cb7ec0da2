use Rattle.std.proofs.Common.{length}
use Rattle.form_args.proofs.properties.+repeats.Given as goal

abbrev pub decreases-repeats : goal.decreases-repeats
decreases-repeats l = length l.ids.now
