use Rattle.std.proofs.Common.{◌≤◌, length, not, filter, get_or, sym, ap, ◌∙◌, arith}
use Rattle.std.specs.List.{list_any}
use Rattle.std.proofs.lemmas.List.{take_all}
use Rattle.cm_base.specs.declared.number.Oid.{Oid}
use Rattle.cmis_spec.specs.Repository.{Repository}
use Rattle.cm_removal.proofs.Filters.{all_pass, gone_more}
use Rattle.cm_removal.specs.Steps.{is_pair_of}
use Rattle.cm_removal.proofs.entries.without_pairs.Goals as goal

pub loop-n-init : goal.loop-n-init
loop-n-init c = λ k. record c.args.draft { filed = sym (all_pass c.args.draft.filed) k }

pub loop-n-preserved : goal.loop-n-preserved
loop-n-preserved c =
    let d : Oid = record { 0 = 0 } in
    let n : Oid = get_or c.args.leaving.now c.loop-n.n-index d in
    c.in_ok-left.ensures ∙ (ap (λ (q : Repository). record q { filed = filter (λ p. not (is_pair_of c.args.state.now p n)) q.filed }) c.loop-n.invariant
    ∙ (λ k. record c.args.draft { filed = gone_more (is_pair_of c.args.state.now) c.args.leaving.now c.loop-n.n-index d c.loop-n-test.true c.args.draft.filed k }))

pub returns : goal.returns
returns c =
    let most : length c.args.leaving.now ≤ c.loop-n.n-index = omega (arith, c.loop-n-test.false) in
    c.loop-n.invariant ∙ (λ k. record c.args.draft { filed = filter (λ p. not (list_any (is_pair_of c.args.state.now p) (take_all c.loop-n.n-index c.args.leaving.now most k))) c.args.draft.filed })
