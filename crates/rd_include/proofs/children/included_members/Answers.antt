use Rattle.rd_include.specs.ShowChildren.{included_child}
use Rattle.cm_include.proofs.Listed.{shown_more}
use Rattle.rd_include.proofs.children.included_members.Goals as goal

pub loop-x-preserved : goal.loop-x-preserved
loop-x-preserved c = shown_more (included_child c.args.state.now c.args.user.now c.args.q.now) c.args.objects.now c.loop-x.x-index c.x-item.result c.loop-x.all c.push.new.self c.in_ok-included_child.field-0
    c.loop-x-test.true c.x-item.is c.loop-x.invariant c.in_ok-push.ensures.ok c.in_ok-included_child.ensures
