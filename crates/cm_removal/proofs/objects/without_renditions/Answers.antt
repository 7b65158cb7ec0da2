use Rattle.std.proofs.Common.{◌≤◌, length, not, filter, get_or, sym, ap, ◌∙◌, arith}
use Rattle.std.proofs.lemmas.List.{take_all}
use Rattle.cm_base.specs.declared.number.Oid.{Oid}
use Rattle.cmis_spec.specs.Repository.{Repository, same}
use Rattle.cm_removal.proofs.Filters.{all_pass, gone_more}
use Rattle.cm_draft.specs.Without.{without_renditions}
use Rattle.cmis_spec.specs.Removal.{among}
use Rattle.cm_removal.proofs.objects.without_renditions.Goals as goal

pub loop-n-init : goal.loop-n-init
loop-n-init c = λ k. record c.args.draft { renditions = sym (all_pass c.args.draft.renditions) k }

pub loop-n-preserved : goal.loop-n-preserved
loop-n-preserved c =
    let d : Oid = record { 0 = 0 } in
    let n : Oid = get_or c.args.gone.now c.loop-n.n-index d in
    c.in_ok-left.ensures ∙ (ap (λ (q : Repository). without_renditions q n) c.loop-n.invariant
    ∙ (λ k. record c.args.draft { renditions = gone_more (λ x m. same x.of m) c.args.gone.now c.loop-n.n-index d c.loop-n-test.true c.args.draft.renditions k }))

pub returns : goal.returns
returns c =
    let most : length c.args.gone.now ≤ c.loop-n.n-index = omega (arith, c.loop-n-test.false) in
    c.loop-n.invariant ∙ (λ k. record c.args.draft { renditions = filter (λ x. not (among (take_all c.loop-n.n-index c.args.gone.now most k) x.of)) c.args.draft.renditions })
