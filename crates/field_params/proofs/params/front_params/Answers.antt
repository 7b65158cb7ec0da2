use Rattle.std.proofs.Common.{sym}
use Rattle.field_params.proofs.Walks.{Fronts-step}
use Rattle.field_params.proofs.params.front_params.Goals as goal

pub loop-params-preserved : goal.loop-params-preserved
loop-params-preserved c =
    rw c.in_ok-push-in-Some.ensures.items (Fronts-step c.args.text.now c.loop-params.rest.now _ _ _ c.loop-params.invariant (sym (rw c.in-Some.is at c.in_ok-read_param.ensures.value)) (rw c.in-Some.is at c.in_ok-read_param.ensures.shorter))
