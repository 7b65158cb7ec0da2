use Rattle.std.proofs.Common.{◌&&◌, not, sym, ap, subst, ◌∙◌}
use Rattle.cm_objects.specs.Pairs.{has_pair, AreNumbers}
use Rattle.cm_objects.proofs.Pairing.{numbers_without, has_same, pair_same}
use Rattle.cm_objects.proofs.index.Index.without_pair.Goals as goal

pub invariant_of-result : goal.invariant_of-result
invariant_of-result c = subst AreNumbers (sym c.in_ok-pairs.ensures.keys) (numbers_without c.self.inside.pairs (c.args.key, c.args.x) c.self.invariant)

pub returns-clause-has : goal.returns-clause-has
returns-clause-has c q =
    sym (has_same q c.in_ok-pairs.pairs) ∙ c.in_ok-pairs.ensures.has q
    ∙ (λ i. (has_same q c.self.inside.pairs ∙ ap (has_pair q) c.self.view_is) i && not (pair_same q (c.args.key, c.args.x) i))
