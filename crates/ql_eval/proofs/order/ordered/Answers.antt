use Rattle.std.proofs.Common.{rules, ◌≡◌, ◌∙◌, subst}
use Rattle.core.specs.Ordering.{is_lt}
use Rattle.std.specs.List.Sorted.{IsPermutation, IsSortedBy}
use Rattle.std.specs.Cmp.{IsStrictWeakOrder}
use Rattle.std.proofs.lemmas.Fn.{always_returns_same}
use Rattle.std.proofs.lemmas.List.Sorted.{ranks_by}
use Rattle.ql_eval.specs.Order.{row_order}
use Rattle.ql_eval.proofs.Orders.{row_total, sorted_is_ordered}
use Rattle.ql_eval.proofs.order.ordered.Goals as goal

pub returns : goal.returns
returns c =
    let keys = c.args.keys.now in
    let weak : IsStrictWeakOrder (λ x y. is_lt (row_order keys x y)) = ranks_by (row_total keys) (λ x. x) in
    let sorted : IsSortedBy (λ x y. is_lt (row_order keys x y)) c.sort_unstable_by.new.self.items =
    c.sort_unstable_by.ensures.sorted (λ x y. is_lt (row_order keys x y)) weak (always_returns_same _ (λ a r. is_lt r ≡ is_lt (row_order keys a.0.now a.1.0.now)) _ (λ a r q k. search rules)) in
    let same : IsPermutation c.args.rows c.sort_unstable_by.new.self.items = subst (λ xs. IsPermutation xs c.sort_unstable_by.new.self.items) c.into_vec-all.ensures c.sort_unstable_by.ensures.permutation in
    c.from_vec.ensures ∙ sorted_is_ordered keys c.args.rows c.sort_unstable_by.new.self.items c.requires same sorted
