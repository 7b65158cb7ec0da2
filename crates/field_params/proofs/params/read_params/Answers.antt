use Rattle.std.proofs.Common.{◌∙◌, sym}
use Rattle.field_params.proofs.Walks.{Walk-step}
use Rattle.field_params.proofs.params.read_params.Goals as goal

pub loop-rest-preserved : goal.loop-rest-preserved
loop-rest-preserved c =
    rw c.in_ok-push-in-Some.ensures.items (Walk-step c.args.text.now c.loop-rest.rest.now _ _ _ c.loop-rest.invariant (sym (rw c.in-Some.is at c.in_ok-read_param.ensures.value)) (rw c.in-Some.is at c.in_ok-read_param.ensures.shorter) (sym c.are_blank.ensures ∙ c.loop-rest-test.true))
