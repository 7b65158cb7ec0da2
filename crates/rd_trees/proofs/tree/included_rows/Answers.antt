use Rattle.rd_trees.specs.ReadTree.{included_row}
use Rattle.rd_trees.proofs.Rows.{rows_more}
use Rattle.rd_trees.proofs.tree.included_rows.Goals as goal

pub loop-node-preserved : goal.loop-node-preserved
loop-node-preserved c = rows_more (included_row c.args.state.now c.args.user.now c.args.q.now) c.args.nodes.now c.loop-node.node-index c.node-item.result c.loop-node.rows c.push.new.self c.in_ok-included_row.field-0
    c.loop-node-test.true c.node-item.is c.loop-node.invariant c.in_ok-push.ensures.ok c.in_ok-included_row.ensures
