use Rattle.std.proofs.Common.{◌≡◌, ◌==◌, ◌≤◌, length, not, filter, get_or, sym, ap, ◌∙◌, arith}
use Rattle.std.specs.List.{list_any}
use Rattle.std.proofs.lemmas.List.{take_all}
use Rattle.place_laws.proofs.Numbered.{taken_more}
use Rattle.cm_content.specs.Indexed.{number_of}
use Rattle.cm_content.proofs.Indexing.{all_pass}
use Rattle.cm_content.proofs.renditions.Renditions.without_all.Goals as goal

pub loop-number-init : goal.loop-number-init
loop-number-init c = c.in_ok-begin.ensures ∙ sym (all_pass c.args.self.now)

pub loop-number-preserved : goal.loop-number-preserved
loop-number-preserved c =
    c.in_ok-left.ensures
    ∙ (ap (filter (λ d. not (d.id.0 == get_or c.args.numbers.now c.loop-number.number-index 0))) c.loop-number.invariant
    ∙ taken_more number_of c.args.numbers.now c.loop-number.number-index 0 c.loop-number-test.true c.args.self.now)

pub returns : goal.returns
returns c =
    let most : length c.args.numbers.now ≤ c.loop-number.number-index = omega (arith, c.loop-number-test.false) in
    c.loop-number.invariant ∙ ap (λ l. filter (λ d. not (list_any (λ q. d.id.0 == q) l)) c.args.self.now) (take_all c.loop-number.number-index c.args.numbers.now most)
