use Rattle.std.proofs.Common.{length}
use Rattle.ql_eval.proofs.like.+upto_run.Given as goal

abbrev pub decreases-upto_run : goal.decreases-upto_run
decreases-upto_run l = length l.pieces.now
