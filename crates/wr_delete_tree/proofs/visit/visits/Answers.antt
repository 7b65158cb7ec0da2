use Rattle.std.proofs.Common.{◌∙◌, ◌+◌, [], ◌∷◌, false, get_or, take, sym, ap}
use Rattle.std.specs.Prelude.{fold}
use Rattle.std.proofs.lemmas.List.{take_more}
use Rattle.std.proofs.lemmas.List.Sums.{fold-append}
use Rattle.cm_base.specs.declared.number.Oid.{Oid}
use Rattle.wr_delete_tree.specs.declared.visit.Progress.{Progress}
use Rattle.wr_delete_tree.specs.DeleteTree.{visit}
use Rattle.wr_delete_tree.proofs.visit.visits.Goals as goal

pub loop-n-preserved : goal.loop-n-preserved
loop-n-preserved c =
    let f : Progress → Oid → Progress = visit c.args.view.user.now c.args.view.moment c.args.view.call.now c.args.view.tree.now in
    let start : Progress = record { state = c.args.state; ended = false } in
    let xs = c.as_slice-n-items.result.now in
    let i = c.loop-n.n-index in
    let x : Oid = get_or xs i (record { 0 = 0 }) in
    let same = c.as_slice-n-items.ensures in
    c.in_ok-progress.ensures
    ∙ (ap (λ p. f p x) (c.loop-n.invariant ∙ ap (λ ys. fold f start (take i ys)) (sym same))
    ∙ (sym (fold-append f start (take i xs) (x ∷ []))
    ∙ (ap (fold f start) (sym (take_more xs i (record { 0 = 0 }) c.loop-n-test.true))
    ∙ ap (λ ys. fold f start (take (i + 1) ys)) same)))
