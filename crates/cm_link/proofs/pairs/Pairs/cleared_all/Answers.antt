use Rattle.std.proofs.Common.{◌≤◌, ◌==◌, length, cond, None, ap, ◌∙◌, arith}
use Rattle.std.proofs.lemmas.List.{take_all}
use Rattle.std.specs.List.{list_any}
use Rattle.core.specs.Ordering.{nat_cmp}
use Rattle.core.specs.FinMap.Entries.{find}
use Rattle.place_laws.proofs.Clearing.{cleared_more}
use Rattle.cm_link.proofs.pairs.Pairs.cleared_all.Goals as goal

pub loop-place-preserved : goal.loop-place-preserved
loop-place-preserved c = record {
  indexed = c.in_ok-pairs.ensures.indexed;
  found = cleared_more (λ p. find nat_cmp p c.args.self.now.entries) (λ p. find nat_cmp p c.loop-place.pairs.entries) (λ p. find nat_cmp p c.in_ok-pairs.pairs.entries)
      c.args.places.now c.loop-place.place-index 0 c.loop-place-test.true c.loop-place.invariant.found c.in_ok-pairs.ensures.found;
}

pub returns-clause-found : goal.returns-clause-found
returns-clause-found c p =
    let most : length c.args.places.now ≤ c.loop-place.place-index = omega (arith, c.loop-place-test.false) in
    c.loop-place.invariant.found p ∙ ap (λ l. cond (list_any (λ q. p == q) l) None (find nat_cmp p c.args.self.now.entries)) (take_all c.loop-place.place-index c.args.places.now most)
