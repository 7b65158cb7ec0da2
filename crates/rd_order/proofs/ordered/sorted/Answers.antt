use Rattle.std.proofs.Common.{◌≡◌, rules}
use Rattle.core.specs.Ordering.{is_lt}
use Rattle.std.specs.Cmp.{IsStrictWeakOrder, IsTotalOrder, on_total}
use Rattle.std.proofs.lemmas.Fn.{always_returns_same}
use Rattle.std.proofs.lemmas.List.Sorted.{ranks_by}
use Rattle.ql_eval.proofs.Orders.{row_total}
use Rattle.rd_order.specs.declared.ordered.Keyed.{Keyed}
use Rattle.rd_order.specs.Keyed.{rows_in_order}
use Rattle.rd_order.proofs.Sorting.{stable_is_sorted}
use Rattle.rd_order.proofs.ordered.sorted.Goals as goal

pub returns : goal.returns
returns c =
    let keys = c.args.keys.now in
    let t = on_total (λ (k : Keyed). k.row) (row_total keys) in
    let o : IsTotalOrder (rows_in_order keys) = record { antisymm = t.antisymm; trans = t.trans; congr = t.congr } in
    let weak : IsStrictWeakOrder (λ x y. is_lt (rows_in_order keys x y)) = ranks_by o (λ x. x) in
    let rule = always_returns_same _ (λ a r. is_lt r ≡ is_lt (rows_in_order keys a.0.now a.1.0.now)) _ (λ a r q k. search rules) in
    stable_is_sorted (rows_in_order keys) o c.args.all.items c.sort_by.new.self.items
    (c.in_ok-sort_by.ensures.sorted (λ x y. is_lt (rows_in_order keys x y)) weak rule)
    (c.in_ok-sort_by.ensures.stable (λ x y. is_lt (rows_in_order keys x y)) weak rule)
