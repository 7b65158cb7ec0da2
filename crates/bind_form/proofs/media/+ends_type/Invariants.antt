use Rattle.std.proofs.Common.{length}
use Rattle.bind_form.proofs.media.+ends_type.Given as goal

abbrev pub decreases-ends_type : goal.decreases-ends_type
decreases-ends_type l = length l.text.now
