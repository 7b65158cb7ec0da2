use Rattle.std.proofs.Common.{◌≡◌, ◌<◌, ◌||◌, sym, ap, subst, ◌∙◌}
use Rattle.core.specs.Ordering.{eq_by_cmp}
use Rattle.cm_map.specs.Sets.{has_key, with_key}
use Rattle.cm_objects.specs.Pairs.{has_pair, pair_order, AreNumbers}
use Rattle.cm_objects.proofs.Pairing.{numbers_with, has_same, pair_same}
use Rattle.cm_objects.proofs.index.Index.with_pair.Goals as goal

keys_added : (c : goal.In_ok-pairs) → c.in_ok-pairs.pairs ≡ with_key pair_order c.self.inside.pairs (c.args.key, c.args.x)
keys_added c = c.in_ok-pairs.ensures.keys ∙ (λ i. with_key pair_order c.self.inside.pairs (c.args.key, record { 0 = c.same_number-number.ensures.same i }))

pub invariant_of-result : goal.invariant_of-result
invariant_of-result c = subst AreNumbers (sym (keys_added c)) (numbers_with c.self.inside.pairs (c.args.key, c.args.x) c.self.invariant (subst (λ n. n < 18446744073709551616) c.same_number-number.ensures.same c.same_number-number.ensures.fits))

pub returns-clause-pairs : goal.returns-clause-pairs
returns-clause-pairs c = keys_added c ∙ ap (λ l. with_key pair_order l (c.args.key, c.args.x)) c.self.view_is

pub returns-clause-has : goal.returns-clause-has
returns-clause-has c q =
    sym (has_same q c.in_ok-pairs.pairs) ∙ c.in_ok-pairs.ensures.has q
    ∙ (λ i. eq_by_cmp pair_order q (c.args.key, record { 0 = c.same_number-number.ensures.same i }) || has_key pair_order q c.self.inside.pairs)
    ∙ (λ i. pair_same q (c.args.key, c.args.x) i || (has_same q c.self.inside.pairs ∙ ap (has_pair q) c.self.view_is) i)
