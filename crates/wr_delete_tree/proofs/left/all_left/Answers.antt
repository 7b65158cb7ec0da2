use Rattle.std.proofs.Common.{◌∙◌, ◌+◌, ◌++◌, get_or, take, sym, ap}
use Rattle.std.specs.List.{filter_map}
use Rattle.std.specs.Option.{option_to_list}
use Rattle.cm_types.proofs.Lists.{filter_map_more}
use Rattle.wr_delete_tree.specs.DeleteTree.{left_at}
use Rattle.wr_delete_tree.proofs.left.all_left.Goals as goal

pub loop-n-preserved : goal.loop-n-preserved
loop-n-preserved c =
    let f = left_at c.args.state.now c.args.user.now c.args.tree.now c.args.top in
    let xs = c.as_slice-n-items.result.now in
    let i = c.loop-n.n-index in
    let same = c.as_slice-n-items.ensures in
    c.in_ok-all.ensures
    ∙ (ap (λ o. c.loop-n.all ++ option_to_list o) c.left_at.ensures
    ∙ (ap (λ all. all ++ option_to_list (f (get_or xs i (record { 0 = 0 })))) (c.loop-n.invariant ∙ ap (λ ys. filter_map f (take i ys)) (sym same))
    ∙ (filter_map_more f xs i (record { 0 = 0 }) c.loop-n-test.true
    ∙ ap (λ ys. filter_map f (take (i + 1) ys)) same)))
