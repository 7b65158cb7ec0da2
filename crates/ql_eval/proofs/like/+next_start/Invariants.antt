use Rattle.std.proofs.Common.{length}
use Rattle.ql_eval.proofs.like.+next_start.Given as goal

abbrev pub decreases-next_start : goal.decreases-next_start
decreases-next_start l = length l.text.now
