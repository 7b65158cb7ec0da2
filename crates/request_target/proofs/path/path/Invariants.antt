use Rattle.std.proofs.Common.{length}
use Rattle.request_target.proofs.Pieces.{Walked}
use Rattle.request_target.proofs.path.path.Given as goal

abbrev pub invariant-loop-rest : goal.invariant-loop-rest
invariant-loop-rest l = Walked l.path l.names.items l.rest

abbrev pub decreases-loop-rest : goal.decreases-loop-rest
decreases-loop-rest l = length l.rest
