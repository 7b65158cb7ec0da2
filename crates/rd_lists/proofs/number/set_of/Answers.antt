use Rattle.std.proofs.Common.{ap, sym, ◌∙◌, ◌||◌, get_or, take, is_some}
use Rattle.std.specs.List.{list_any}
use Rattle.std.proofs.lemmas.List.{take_more}
use Rattle.core.specs.Ordering.{nat_cmp}
use Rattle.core.specs.FinMap.Entries.{find}
use Rattle.cm_base.specs.declared.number.Oid.{Oid}
use Rattle.cmis_spec.specs.Repository.{same}
use Rattle.cm_state.proofs.Numbers.{any_last, flip, more_numbers}
use Rattle.rd_lists.proofs.number.set_of.Goals as goal

pub loop-n-preserved : goal.loop-n-preserved
loop-n-preserved c m =
    let xs = c.args.numbers.now in
    let i = c.loop-n.n-index in
    let x : Oid = get_or xs i (record { 0 = 0 }) in
    ap (λ s. is_some (find nat_cmp m.0 s)) c.in_ok-all.ensures
    ∙ (more_numbers m.0 x.0 c.loop-n.all
    ∙ ((λ j. flip m.0 x.0 j || c.loop-n.invariant m j)
    ∙ (sym (any_last (same m) (take i xs) x) ∙ ap (list_any (same m)) (sym (take_more xs i (record { 0 = 0 }) c.loop-n-test.true)))))
