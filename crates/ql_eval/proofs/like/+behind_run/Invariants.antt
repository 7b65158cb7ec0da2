use Rattle.std.proofs.Common.{length, ◌+◌}
use Rattle.ql_eval.proofs.like.+behind_run.Given as goal

abbrev pub decreases-behind_run : goal.decreases-behind_run
decreases-behind_run l = length l.pieces.now + length l.text.now
