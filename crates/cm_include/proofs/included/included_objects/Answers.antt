use Rattle.cm_include.specs.Included.{included_in}
use Rattle.cm_include.proofs.Listed.{shown_more}
use Rattle.cm_include.proofs.included.included_objects.Goals as goal

pub loop-x-preserved : goal.loop-x-preserved
loop-x-preserved c = shown_more (included_in c.args.view) c.args.objects.now c.loop-x.x-index c.x-item.result c.loop-x.all c.push.new.self c.in_ok-included_object.field-0
    c.loop-x-test.true c.x-item.is c.loop-x.invariant c.in_ok-push.ensures.ok c.in_ok-included_object.ensures
