use Rattle.std.proofs.Common.{take, get_or, sym, ap, ◌∙◌}
use Rattle.std.proofs.lemmas.List.{take_more}
use Rattle.cm_base.specs.declared.number.Oid.{Oid}
use Rattle.cmis_spec.specs.Removal.{each_once}
use Rattle.cm_removal.specs.Steps.{with_last}
use Rattle.cm_removal.proofs.Ones.{once_more}
use Rattle.cm_removal.proofs.gone.Gone.of.Goals as goal

pub loop-n-preserved : goal.loop-n-preserved
loop-n-preserved c =
    let ns = c.args.numbers.now in
    let i = c.loop-n.n-index in
    let d : Oid = record { 0 = 0 } in
    c.in_ok-all.ensures ∙ (ap (λ l. with_last l (get_or ns i d)) c.loop-n.invariant ∙ (once_more (take i ns) (get_or ns i d) ∙ ap each_once (sym (take_more ns i d c.loop-n-test.true))))
