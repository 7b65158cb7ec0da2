use Rattle.std.proofs.Common.{sym, get_or, ap, ◌∙◌}
use Rattle.std.proofs.lemmas.List.Sums.{fold_more}
use Rattle.cm_base.specs.declared.number.Oid.{Oid}
use Rattle.cmis_spec.specs.Removal.{among}
use Rattle.cm_removal.specs.Steps.{with_left}
use Rattle.cm_removal.proofs.series.with_lefts.Goals as goal

pub loop-n-preserved : goal.loop-n-preserved
loop-n-preserved c =
    let d : Oid = record { 0 = 0 } in
    let n : Oid = get_or c.args.entries.now c.loop-n.n-index d in
    let g = among c.args.gone.now in
    c.in_ok-left.ensures ∙ (ap (λ q. with_left g q n) c.loop-n.invariant ∙ sym (fold_more (with_left g) c.args.draft c.args.entries.now c.loop-n.n-index d c.loop-n-test.true))
