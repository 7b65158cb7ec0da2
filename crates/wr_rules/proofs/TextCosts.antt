-- What the values of a copy cost.
use Rattle.std.specs.Prelude.{◌≡◌, ℕ, List, [], ◌∷◌, map, sum}
use Rattle.std.proofs.Common.{refl, ap, arith}
use Rattle.cm_base.specs.declared.value.Scalar.TheVariants.{Words}
use Rattle.cmis_spec.specs.Values.{words, texts}
use Rattle.wr_rules.specs.Rules.{scalar_cost, value_cost}

one_text : (t : List ℕ) → value_cost (words t) ≡ scalar_cost (Words t)
one_text t = omega arith

-- a list of texts costs what each of them does
same_costs : (ts : List (List ℕ)) → map (λ t. value_cost (words t)) ts ≡ map scalar_cost (map Words ts)
same_costs [] = refl
same_costs (t ∷ ts) = λ i. one_text t i ∷ same_costs ts i

pub texts_cost : (ts : List (List ℕ)) → sum (map (λ t. value_cost (words t)) ts) ≡ value_cost (texts ts)
texts_cost [] = refl
texts_cost (t ∷ ts) = ap sum (same_costs (t ∷ ts))
