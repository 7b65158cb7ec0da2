-- A weight that is kept in 64 bits may stand for the weight itself.
use Rattle.std.specs.Prelude.{◌≡◌, ℕ, ◌+◌, ◌-◌, ◌^◌, ◌≤◌, ◌<◌, nat_lt, true, false, List, [], ◌∷◌, ◌++◌, map, sum, sum_by}
use Rattle.std.proofs.Common.{refl, sym, ap, ◌∙◌, arith}
use Rattle.std.proofs.lemmas.Bool.{ltb-true, ltb-false}
use Rattle.std.proofs.lemmas.List.Sums.{sum-map, sum_by-append, sum_by-cons}
use Rattle.std.proofs.Math.Nat.{min-eq_left, min-eq_right}
use Rattle.call_parts.specs.Weight.{bounded, text_weight, weight_of_texts}
use Rattle.bulk_parts.specs.declared.writes.ObjectIdAndChangeToken.{ObjectIdAndChangeToken}
use Rattle.bulk_parts.specs.Weight.{weight_of_object, weight_of_objects}

texts_append : (xs ys : List (List ℕ)) → weight_of_texts (xs ++ ys) ≡ weight_of_texts xs + weight_of_texts ys
texts_append xs ys =
    sum-map text_weight (xs ++ ys)
    ∙ (sum_by-append text_weight xs ys
    ∙ (λ i. sym (sum-map text_weight xs) i + sym (sum-map text_weight ys) i))

-- one of the objects alone weighs too much
heavy : (s g : ℕ) (o : ObjectIdAndChangeToken) (os : List ObjectIdAndChangeToken) → 2 ^ 64 - 1 ≤ g → 2 ^ 64 - 1 ≤ s + sum (map (weight_of_object g) (o ∷ os))
heavy s g o os h =
    let e : sum (map (weight_of_object g) (o ∷ os)) ≡ weight_of_object g o + sum_by (weight_of_object g) os = sum-map (weight_of_object g) (o ∷ os) ∙ sum_by-cons (weight_of_object g) o os in
    omega (arith, h, e)

pub from_nothing : (n : ℕ) → bounded (0 + n) ≡ bounded n
from_nothing n = omega arith

at_bound : (n : ℕ) → 2 ^ 64 - 1 ≤ n → bounded n ≡ 2 ^ 64 - 1
at_bound n h = min-eq_right h

objects_bounded : (s g : ℕ) (os : List ObjectIdAndChangeToken) → bounded (s + sum (map (weight_of_object (bounded g)) os)) ≡ bounded (s + sum (map (weight_of_object g) os))
objects_bounded s g [] = refl
objects_bounded s g (o ∷ os) = elim (nat_lt (2 ^ 64 - 1) g) as (λ b. nat_lt (2 ^ 64 - 1) g ≡ b → bounded (s + sum (map (weight_of_object (bounded g)) (o ∷ os))) ≡ bounded (s + sum (map (weight_of_object g) (o ∷ os)))) [
  | true ↦ λ e.
      let h : 2 ^ 64 - 1 < g = ltb-true (2 ^ 64 - 1) g e in
      let all : 2 ^ 64 - 1 ≤ g = omega (arith, h) in
      let b : bounded g ≡ 2 ^ 64 - 1 = at_bound g all in
      let c : 2 ^ 64 - 1 ≤ bounded g = omega (arith, b) in
      at_bound (s + sum (map (weight_of_object (bounded g)) (o ∷ os))) (heavy s (bounded g) o os c) ∙ sym (at_bound (s + sum (map (weight_of_object g) (o ∷ os))) (heavy s g o os all))
  | false ↦ λ e.
      let h : g ≤ 2 ^ 64 - 1 = omega (arith, ltb-false (2 ^ 64 - 1) g e) in
      ap (λ k. bounded (s + sum (map (weight_of_object k) (o ∷ os)))) (min-eq_left h)
] refl

each_is : (rem add : List (List ℕ)) (g : ℕ) (os : List ObjectIdAndChangeToken)
    → bounded (bounded (bounded (64 + weight_of_texts rem) + weight_of_texts add) + sum (map (weight_of_object (bounded g)) os))
    ≡ bounded (64 + weight_of_texts (rem ++ add) + sum (map (weight_of_object g) os))
each_is rem add g os =
    let t = texts_append rem add in
    let all = sum (map (weight_of_object (bounded g)) os) in
    inner (64 + weight_of_texts rem) (weight_of_texts add) all
    ∙ (ap (λ k. bounded (k + all)) (omega (arith, t)) ∙ objects_bounded (64 + weight_of_texts (rem ++ add)) g os)
  where
    inner : (a b c : ℕ) → bounded (bounded (bounded a + b) + c) ≡ bounded (a + b + c)
    inner a b c = omega arith

-- the call, the texts, and the objects one after another
pub weight_is : (rem add : List (List ℕ)) (g : ℕ) (os : List ObjectIdAndChangeToken)
    → bounded (bounded (bounded (64 + weight_of_texts rem) + weight_of_texts add) + weight_of_objects (bounded g) os)
    ≡ bounded (64 + weight_of_texts (rem ++ add) + weight_of_objects g os)
weight_is rem add g [] = alone (64 + weight_of_texts rem) (weight_of_texts add) g ∙ ap (λ k. bounded (k + g)) (let t = texts_append rem add in omega (arith, t))
  where
    alone : (a b c : ℕ) → bounded (bounded (bounded a + b) + bounded c) ≡ bounded (a + b + c)
    alone a b c = omega arith
weight_is rem add g (o ∷ os) = each_is rem add g (o ∷ os)
