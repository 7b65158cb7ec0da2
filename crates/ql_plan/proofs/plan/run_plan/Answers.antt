use Rattle.std.proofs.Common.{◌≡◌, ◌∙◌, sym, ap, subst}
use Rattle.std.specs.Prelude.{filter}
use Rattle.std.specs.List.{filter_map}
use Rattle.ql_eval.specs.Conditions.{keeps}
use Rattle.ql_eval.specs.Order.{IsEachOnce}
use Rattle.row_store.specs.Rows.{row_at}
use Rattle.ql_plan.specs.Found.{rows_of}
use Rattle.ql_plan.proofs.Sets.{rows_once}
use Rattle.ql_plan.proofs.plan.run_plan.Goals as goal

pub ordered-requires : goal.ordered-requires
ordered-requires g c =
    let r = g.S.RowStore.means c.args.store.now in
    let u = c.args.user.now in
    let bound = c.args.bound.now in
    let same : c.in_ok-rows.rows ≡ filter (keeps bound) (rows_of r u bound.kinds c.args.versions) =
    c.in_ok-rows.ensures.kept ∙ (ap (λ ns. filter (keeps bound) (filter_map (row_at r u c.args.versions) ns)) c.as_slice.ensures ∙ c.in_ok-numbers.ensures.all u c.args.versions) in
    subst IsEachOnce (sym same) (rows_once r u bound c.args.versions c.lawful.ensures)
