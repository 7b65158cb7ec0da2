use Rattle.std.proofs.Common.{length}
use Rattle.field_params.proofs.Walks.{Walk}
use Rattle.field_params.proofs.params.read_params.Given as goal

abbrev pub invariant-loop-rest : goal.invariant-loop-rest
invariant-loop-rest l = Walk l.text l.params.items l.rest

abbrev pub decreases-loop-rest : goal.decreases-loop-rest
decreases-loop-rest l = length l.rest
