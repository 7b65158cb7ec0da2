use Rattle.std.proofs.Common.{◌≡◌, take}
use Rattle.std.specs.Prelude.{filter}
use Rattle.row_store.specs.Rows.{has_types}
use Rattle.ql_plan.proofs.candidate.typed.Given as goal

abbrev pub invariant-loop-n : goal.invariant-loop-n
invariant-loop-n g l = l.all ≡ filter (has_types (g.S.RowStore.means l.store) l.kinds) (take l.n-index l.numbers)
