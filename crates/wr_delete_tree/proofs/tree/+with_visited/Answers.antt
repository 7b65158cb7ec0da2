use Rattle.std.proofs.Common.{◌∙◌, ◌++◌, ◌-◌, get_or, take, sym, ap}
use Rattle.std.proofs.lemmas.List.{take_more}
use Rattle.cm_base.specs.declared.number.Oid.{Oid}
use Rattle.wr_delete_tree.specs.DeleteTree.{visited}
use Rattle.wr_delete_tree.proofs.Visiting.{level_more}
use Rattle.wr_delete_tree.proofs.tree.+with_visited.Goals as goal

pub loop-n-preserved : goal.loop-n-preserved
loop-n-preserved t c =
    let r = c.args.state.now in
    let levels = c.args.levels in
    let xs = c.args.numbers.now in
    let i = c.loop-n.n-index in
    let x : Oid = get_or xs i (record { 0 = 0 }) in
    level_more r levels c.args.all c.loop-n.more c.in_ok-below.below c.in_ok-more.more (take i xs) x c.if-levels-eq0.false c.loop-n.invariant
    (c.in_ok-below.ensures ∙ ap (λ ns. c.loop-n.more ++ visited (levels - 1) r ns) (c.as_slice.ensures ∙ c.in_ok-children.ensures))
    c.in_ok-more.ensures
    ∙ ap (λ ns. c.args.all ++ visited levels r ns) (sym (take_more xs i (record { 0 = 0 }) c.loop-n-test.true))
