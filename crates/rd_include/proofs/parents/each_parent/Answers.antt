use Rattle.rd_include.specs.ShowParents.{included_parent}
use Rattle.cm_include.proofs.Listed.{shown_more}
use Rattle.rd_include.proofs.parents.each_parent.Goals as goal

pub loop-folder-preserved : goal.loop-folder-preserved
loop-folder-preserved c = shown_more (included_parent c.args.state.now c.args.user.now c.args.q.now c.args.segment.now) c.args.folders.now c.loop-folder.folder-index c.folder-item.result c.loop-folder.all c.push.new.self c.in_ok-included_parent.field-0
    c.loop-folder-test.true c.folder-item.is c.loop-folder.invariant c.in_ok-push.ensures.ok c.in_ok-included_parent.ensures
