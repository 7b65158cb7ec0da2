use Rattle.std.proofs.Common.{◌≡◌, ◌+◌, take}
use Rattle.ql_plan.specs.Planned.{kept}
use Rattle.ql_plan.proofs.plan.kept.Given as goal

abbrev pub invariant-loop-n : goal.invariant-loop-n
invariant-loop-n g l =
    (l.rows ≡ kept (g.S.RowStore.means l.store) l.search (take l.n-index l.numbers))
    × (l.steps ≡ l.initial.steps + l.n-index)
