use Rattle.std.proofs.Common.{◌++◌, take, get_or, sym, ap, ◌∙◌}
use Rattle.std.specs.List.{flat_map}
use Rattle.std.proofs.lemmas.List.{take_more}
use Rattle.cm_base.specs.declared.number.Oid.{Oid}
use Rattle.cmis_spec.specs.Removal.{going_with}
use Rattle.cm_removal.proofs.Filters.{flat_last}
use Rattle.cm_removal.proofs.ties.with_all.Goals as goal

pub loop-n-preserved : goal.loop-n-preserved
loop-n-preserved c =
    let d : Oid = record { 0 = 0 } in
    let i = c.loop-n.n-index in
    let ns = c.args.numbers.now in
    let n : Oid = get_or ns i d in
    let f = going_with c.args.state.now in
    c.in_ok-all.ensures ∙ (ap (λ l. l ++ f n) c.loop-n.invariant ∙ (sym (flat_last f (take i ns) n) ∙ ap (flat_map f) (sym (take_more ns i d c.loop-n-test.true))))
