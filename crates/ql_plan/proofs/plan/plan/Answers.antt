use Rattle.std.proofs.Common.{◌≡◌, ◌∙◌, ◌≤◌, length, sym, ap, subst}
use Rattle.std.specs.Prelude.{All}
use Rattle.ql_plan.specs.Candidates.{keys_by, fetch_bound}
use Rattle.ql_plan.specs.Planned.{IsKeyBy, HasAll, planned_by}
use Rattle.ql_plan.proofs.Planning.{planned_by_all, planned_few}
use Rattle.ql_plan.proofs.plan.plan.Goals as goal

pub returns-clause-all : goal.returns-clause-all
returns-clause-all g c =
    let r = g.S.RowStore.means c.args.store.now in
    let bound = c.args.bound.now in
    let same : c.as_slice.result.now ≡ keys_by bound.filter = c.as_slice.ensures ∙ c.in_ok-keys.ensures.keys in
    let hold : All (IsKeyBy bound.filter) (keys_by bound.filter) = subst (All (IsKeyBy bound.filter)) c.in_ok-keys.ensures.keys c.in_ok-keys.ensures.hold in
    subst (HasAll r bound) (sym (c.in_ok-numbers.ensures ∙ ap (planned_by r bound.kinds) same)) (planned_by_all r bound (keys_by bound.filter) c.lawful.ensures hold)

pub returns-clause-few : goal.returns-clause-few
returns-clause-few g c =
    let r = g.S.RowStore.means c.args.store.now in
    let bound = c.args.bound.now in
    let same : c.as_slice.result.now ≡ keys_by bound.filter = c.as_slice.ensures ∙ c.in_ok-keys.ensures.keys in
    subst (λ ns. length ns ≤ fetch_bound r bound) (sym (c.in_ok-numbers.ensures ∙ ap (planned_by r bound.kinds) same)) (planned_few r bound c.lawful.ensures)
