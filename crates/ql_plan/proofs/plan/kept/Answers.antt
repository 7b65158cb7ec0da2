use Rattle.std.proofs.Common.{arith}
use Rattle.ql_eval.specs.Conditions.{keeps}
use Rattle.row_store.specs.Rows.{row_at}
use Rattle.ql_plan.proofs.Steps.{kept_more}
use Rattle.ql_plan.proofs.plan.kept.Goals as goal

pub loop-n-preserved : goal.loop-n-preserved
loop-n-preserved g c = (
  kept_more (keeps c.args.search.now.bound) (row_at (g.S.RowStore.means c.args.store.now) c.args.search.now.user c.args.search.now.versions) c.args.numbers.now c.loop-n.n-index (record { 0 = 0 }) c.loop-n-test.true c.loop-n.rows c.keep.new.rows c.loop-n.invariant.0 c.in_ok-keep.ensures.kept,
  omega (arith, c.in_ok-keep.ensures.ticked, c.loop-n.invariant.1),
)
