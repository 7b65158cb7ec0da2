-- The order of pairs, and what a range of them is.
use Rattle.std.proofs.Common.{◌≡◌, ◌+◌, ◌<◌, ◌==◌, ◌||◌, ℕ, Bool, true, false, not, cond, ◌&&◌, List, [], ◌∷◌, ◌++◌, map, filter, sym, ap, refl, ◌∙◌, true≢false, arith, Ordering, Less, Equal, Greater, is_eq, is_lt, is_gt}
use Rattle.std.specs.List.{list_any}
use Rattle.core.specs.List.{AllByRecursion}
use Rattle.core.specs.Ordering.{eq_by_cmp, nat_cmp, ordering_then, MatchOrdering}
use Rattle.core.specs.Cmp.{both_ways, ranks, unsigned_tied}
use Rattle.std.proofs.lemmas.Map.Text.{is_eq-slice_cmp}
use Rattle.cm_base.specs.declared.number.Oid.{Oid}
use Rattle.cm_map.specs.Parts.{within}
use Rattle.cm_map.specs.Sets.{IsRising, has_key, with_key, all_but_key}
use Rattle.cm_objects.specs.declared.index_key.IndexKey.{IndexKey}
use Rattle.cm_objects.specs.declared.index_key.IndexKey.TheVariants as keys
use Rattle.cm_objects.specs.contracts.index_key.IndexKeyOrd.TheImpl.{ghosts}
use Rattle.cm_objects.specs.IndexKeyFacts.{index_exact}
use Rattle.cm_objects.specs.Pairs.{same_key, same_pair, has_pair, ids_of, pair_order, AreNumbers}

tied_then : (a b : Ordering) → is_eq (ordering_then a b) ≡ (is_eq a && is_eq b)
tied_then Less b = refl
tied_then Equal b = refl
tied_then Greater b = refl

key_same : (k l : IndexKey) → is_eq (ghosts.cmp k l) ≡ same_key k l
key_same (keys.Kind s) (keys.Kind t) = is_eq-slice_cmp s t
key_same (keys.Kind s) (keys.End y) = refl
key_same (keys.End x) (keys.Kind t) = refl
key_same (keys.End x) (keys.End y) = unsigned_tied x.0 y.0

equal_of : (r : Ordering) → is_eq r ≡ true → r ≡ Equal
equal_of Less e = absurd (true≢false (sym e))
equal_of Equal e = refl
equal_of Greater e = absurd (true≢false (sym e))

key_exact : (k l : IndexKey) → same_key k l ≡ true → k ≡ l
key_exact k l e = index_exact k l (equal_of (ghosts.cmp k l) (key_same k l ∙ e))

key_turned : (k l : IndexKey) → same_key k l ≡ same_key l k
key_turned k l =
    both_ways (same_key k l) (same_key l k)
    (λ h. let e = key_exact k l h in (λ i. same_key (sym e i) (e i)) ∙ h)
    (λ h. let e = key_exact l k h in (λ i. same_key (sym e i) (e i)) ∙ h)

pub pair_same : (p q : IndexKey × Oid) → eq_by_cmp pair_order p q ≡ same_pair p q
pair_same p q = tied_then (ghosts.cmp p.0 q.0) (nat_cmp p.1.0 q.1.0) ∙ (λ i. key_same p.0 q.0 i && unsigned_tied p.1.0 q.1.0 i)

pub has_same : (p : IndexKey × Oid) (pairs : List (IndexKey × Oid)) → has_key pair_order p pairs ≡ has_pair p pairs
has_same p [] = refl
has_same p (q ∷ pairs) = λ i. pair_same p q i || has_same p pairs i

-- ---- numbers

numbers_filter : (t : IndexKey × Oid → Bool) (pairs : List (IndexKey × Oid)) → AreNumbers pairs → AreNumbers (filter t pairs)
numbers_filter t [] h = tt
numbers_filter t (p ∷ pairs) h =
    elim (t p) as (λ b. AreNumbers (cond b (p ∷ filter t pairs) (filter t pairs))) [
      | true ↦ (h.0, numbers_filter t pairs h.1)
      | false ↦ numbers_filter t pairs h.1
    ]

numbers_both : (ps qs : List (IndexKey × Oid)) → AreNumbers ps → AreNumbers qs → AreNumbers (ps ++ qs)
numbers_both [] qs h k = k
numbers_both (p ∷ ps) qs h k = (h.0, numbers_both ps qs h.1 k)

pub numbers_with : (pairs : List (IndexKey × Oid)) (p : IndexKey × Oid) → AreNumbers pairs → p.1.0 < 18446744073709551616 → AreNumbers (with_key pair_order pairs p)
numbers_with pairs p h n = numbers_both _ (p ∷ filter (λ x. is_gt (pair_order x p)) pairs) (numbers_filter _ pairs h) (n, numbers_filter _ pairs h)

pub numbers_without : (pairs : List (IndexKey × Oid)) (p : IndexKey × Oid) → AreNumbers pairs → AreNumbers (all_but_key pair_order p pairs)
numbers_without pairs p h = numbers_filter _ pairs h

-- ---- ranges

not_less : (i : ℕ) → not (is_lt (nat_cmp i 0)) ≡ true
not_less i =
    elim (nat_cmp i 0) as (λ r. MatchOrdering r (i < 0) (i ≡ 0) (0 < i) → not (is_lt r) ≡ true) [
      | Less ↦ λ h. absurd (omega (arith, h))
      | Equal ↦ λ _. refl
      | Greater ↦ λ _. refl
    ] (ranks i 0)

not_greater : (i m : ℕ) → i < m + 1 → not (is_gt (nat_cmp i m)) ≡ true
not_greater i m lt =
    elim (nat_cmp i m) as (λ r. MatchOrdering r (i < m) (i ≡ m) (m < i) → not (is_gt r) ≡ true) [
      | Less ↦ λ _. refl
      | Equal ↦ λ _. refl
      | Greater ↦ λ h. absurd (omega (arith, h))
    ] (ranks i m)

pub in_range : (k : IndexKey) (p : IndexKey × Oid) → p.1.0 < 18446744073709551616 → within pair_order (k, record { 0 = 0 }) (k, record { 0 = 18446744073709551615 }) p ≡ same_key p.0 k
in_range k p lt =
    elim (ghosts.cmp p.0 k) as (λ r. (not (is_lt (ordering_then r (nat_cmp p.1.0 0))) && not (is_gt (ordering_then r (nat_cmp p.1.0 18446744073709551615)))) ≡ is_eq r) [
      | Less ↦ refl
      | Equal ↦ λ i. not_less p.1.0 i && not_greater p.1.0 18446744073709551615 (omega (arith, lt)) i
      | Greater ↦ refl
    ] ∙ key_same p.0 k

pub range_same : (k : IndexKey) (pairs : List (IndexKey × Oid)) → AreNumbers pairs → filter (within pair_order (k, record { 0 = 0 }) (k, record { 0 = 18446744073709551615 })) pairs ≡ filter (λ p. same_key p.0 k) pairs
range_same k [] h = refl
range_same k (p ∷ pairs) h = λ i. cond (in_range k p h.0 i) (p ∷ range_same k pairs h.1 i) (range_same k pairs h.1 i)

-- ---- the numbers beside a key

pub ids_have : (k : IndexKey) (x : Oid) (pairs : List (IndexKey × Oid)) → list_any (λ y. x.0 == y.0) (ids_of k pairs) ≡ has_pair (k, x) pairs
ids_have k x [] = refl
ids_have k x (p ∷ pairs) =
    let rest = filter (λ p. same_key p.0 k) pairs in
    elim (same_key p.0 k) as (λ b. same_key p.0 k ≡ b → list_any (λ y. x.0 == y.0) (map (λ p. p.1) (cond b (p ∷ rest) rest)) ≡ (same_pair (k, x) p || has_pair (k, x) pairs)) [
      | true ↦ λ e. ap (λ b. x.0 == p.1.0 || b) (ids_have k x pairs) ∙ ap (λ b. b && x.0 == p.1.0 || has_pair (k, x) pairs) (sym (key_turned k p.0 ∙ e))
      | false ↦ λ e. ids_have k x pairs ∙ ap (λ b. b && x.0 == p.1.0 || has_pair (k, x) pairs) (sym (key_turned k p.0 ∙ e))
    ] refl

pub ids_rise : (k : IndexKey) (pairs : List (IndexKey × Oid)) → IsRising pair_order pairs → IsRising (λ x y. nat_cmp x.0 y.0) (ids_of k pairs)
ids_rise k [] h = tt
ids_rise k (p ∷ pairs) h =
    elim (same_key p.0 k) as (λ b. same_key p.0 k ≡ b → IsRising (λ x y. nat_cmp x.0 y.0) (map (λ p. p.1) (cond b (p ∷ filter (λ p. same_key p.0 k) pairs) (filter (λ p. same_key p.0 k) pairs)))) [
      | true ↦ λ e. (below e pairs h.0, ids_rise k pairs h.1)
      | false ↦ λ _. ids_rise k pairs h.1
    ] refl
  where
    later : (q : IndexKey × Oid) → same_key p.0 k ≡ true → same_key q.0 k ≡ true → pair_order p q ≡ Less → nat_cmp p.1.0 q.1.0 ≡ Less
    later q e f h =
        let same : p.0 ≡ q.0 = key_exact p.0 k e ∙ sym (key_exact q.0 k f) in
        let tie : ghosts.cmp p.0 q.0 ≡ Equal = equal_of (ghosts.cmp p.0 q.0) (key_same p.0 q.0 ∙ (λ i. same_key p.0 ((sym same ∙ key_exact p.0 k e) i)) ∙ e) in
        ap (λ r. ordering_then r (nat_cmp p.1.0 q.1.0)) (sym tie) ∙ h

    below : same_key p.0 k ≡ true → (pairs : List (IndexKey × Oid)) → AllByRecursion (λ q. pair_order p q ≡ Less) pairs → AllByRecursion (λ y. nat_cmp p.1.0 y.0 ≡ Less) (ids_of k pairs)
    below e [] h = tt
    below e (q ∷ pairs) h =
        elim (same_key q.0 k) as (λ b. same_key q.0 k ≡ b → AllByRecursion (λ y. nat_cmp p.1.0 y.0 ≡ Less) (map (λ p. p.1) (cond b (q ∷ filter (λ p. same_key p.0 k) pairs) (filter (λ p. same_key p.0 k) pairs)))) [
          | true ↦ λ f. (later q e f h.0, below e pairs h.1)
          | false ↦ λ _. below e pairs h.1
        ] refl
