use Rattle.std.proofs.Common.{length}
use Rattle.field_params.proofs.Walks.{Fronts}
use Rattle.field_params.proofs.params.front_params.Given as goal

abbrev pub invariant-loop-params : goal.invariant-loop-params
invariant-loop-params l = Fronts l.text l.params.items l.rest

abbrev pub decreases-loop-params : goal.decreases-loop-params
decreases-loop-params l = length l.rest
