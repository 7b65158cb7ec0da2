use Rattle.std.proofs.Common.{◌≡◌, take}
use Rattle.std.specs.Prelude.{fold}
use Rattle.ql_plan.specs.Planned.{members_of, shorter}
use Rattle.ql_plan.proofs.candidate.fewest.Given as goal

abbrev pub invariant-loop-key : goal.invariant-loop-key
invariant-loop-key g l = l.best ≡ fold (λ best other. shorter best (members_of (g.S.RowStore.means l.store) l.kinds other)) (members_of (g.S.RowStore.means l.store) l.kinds l.fn.first) (take l.key-index l.others)
