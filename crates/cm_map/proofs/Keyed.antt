-- The keys of entries in order, as a set.
use Rattle.std.proofs.Common.{◌≡◌, Bool, true, false, cond, not, T, ◌&&◌, ◌||◌, List, [], ◌∷◌, ◌++◌, map, filter, sym, ap, refl, ◌∙◌, Ordering, Less, Equal, Greater, is_eq, is_lt, is_gt, true≢false}
use Rattle.core.specs.List.{AllByRecursion}
use Rattle.core.specs.FinMap.Entries.{put, is_sorted, below_all, where_key, by_order}
use Rattle.core.specs.Ordering.{eq_by_cmp, ordering_reverse}
use Rattle.core.specs.Cmp.{IsTotalOrder, alike_right}
use Rattle.cm_map.proofs.Parting.{first, second, is_less}
use Rattle.cm_map.specs.Sets.{IsRising, has_key, with_key, all_but_key, key_of}

-- `or` in another order
or_swap : (a b c : Bool) → (a || (b || c)) ≡ (b || (a || c))
or_swap true true c = refl
or_swap true false c = refl
or_swap false b c = refl

or_assoc : (a b c : Bool) → ((a || b) || c) ≡ (a || (b || c))
or_assoc true b c = refl
or_assoc false b c = refl

or_twice : (a b : Bool) → (a || b) ≡ (a || (a || b))
or_twice true b = refl
or_twice false b = refl

and_false : (b : Bool) → (b && false) ≡ false
and_false true = refl
and_false false = refl

and_or : (a b c : Bool) → (a ≡ true → c ≡ true) → (a || (b && c)) ≡ ((a || b) && c)
and_or true b c h = sym (h refl)
and_or false b c h = refl

dropped_or : (e b : Bool) → (b && not e) ≡ ((e || b) && not e)
dropped_or true b = and_false b
dropped_or false b = ap (λ c. c) refl

tied : (r : Ordering) → is_eq r ≡ true → r ≡ Equal
tied Less e = absurd (true≢false (sym e))
tied Equal e = refl
tied Greater e = absurd (true≢false (sym e))

module _ {K : Type 0} (R : K → K → Ordering) (o : IsTotalOrder R) where
  turned : (x k : K) → R k x ≡ Less → R x k ≡ Greater
  turned x k h = o.antisymm x k ∙ ap ordering_reverse h

  none_lower : (k : K) (ks : List K) → AllByRecursion (λ x. R k x ≡ Less) ks → filter (λ x. is_lt (R x k)) ks ≡ []
  none_lower k [] h = refl
  none_lower k (x ∷ ks) h = ap (λ r. cond (is_lt r) (x ∷ filter (λ x. is_lt (R x k)) ks) (filter (λ x. is_lt (R x k)) ks)) (turned x k h.0) ∙ none_lower k ks h.1

  all_higher : (k : K) (ks : List K) → AllByRecursion (λ x. R k x ≡ Less) ks → filter (λ x. is_gt (R x k)) ks ≡ ks
  all_higher k [] h = refl
  all_higher k (x ∷ ks) h = ap (λ r. cond (is_gt r) (x ∷ filter (λ x. is_gt (R x k)) ks) (filter (λ x. is_gt (R x k)) ks)) (turned x k h.0) ∙ ap (λ l. x ∷ l) (all_higher k ks h.1)

  above_less : (k x : K) → R k x ≡ Less → (ks : List K) → AllByRecursion (λ y. R x y ≡ Less) ks → AllByRecursion (λ y. R k y ≡ Less) ks
  above_less k x p [] h = tt
  above_less k x p (y ∷ ks) h = (o.trans k x y p h.0, above_less k x p ks h.1)

  above_tied : (k x : K) → R k x ≡ Equal → (ks : List K) → AllByRecursion (λ y. R x y ≡ Less) ks → AllByRecursion (λ y. R k y ≡ Less) ks
  above_tied k x p [] h = tt
  above_tied k x p (y ∷ ks) h = (o.congr k x y p ∙ h.0, above_tied k x p ks h.1)

  -- what is added to a list in order stands between the lower keys and the higher ones
  module _ {X : Type 0} (exact : (x y : K) → R x y ≡ Equal → x ≡ y) where
    pub keys_put : (k : K) (v : X) (es : List (K × X)) → IsRising R (map key_of es) → map key_of (put R k v es) ≡ with_key R (map key_of es) k
    keys_put k v [] h = refl
    keys_put k v (e ∷ es) h =
        let x = e.0 in
        let ks = map key_of es in
        let low = filter (λ y. is_lt (R y k)) ks in
        let high = filter (λ y. is_gt (R y k)) ks in
        elim (R k x) as (λ r. R k x ≡ r → map key_of (by_order r ((k, v) ∷ e ∷ es) ((x, v) ∷ es) (e ∷ put R k v es)) ≡ with_key R (x ∷ ks) k) [
          | Less ↦ λ p. let up : AllByRecursion (λ y. R k y ≡ Less) (x ∷ ks) = (p, above_less k x p ks h.0) in sym (λ i. none_lower k (x ∷ ks) up i ++ k ∷ all_higher k (x ∷ ks) up i)
          | Equal ↦ λ p.
              let up : AllByRecursion (λ y. R k y ≡ Less) ks = above_tied k x p ks h.0 in
              let q : R x k ≡ Equal = o.antisymm x k ∙ ap ordering_reverse p in
              sym (ap (λ r. cond (is_lt r) (x ∷ low) low ++ k ∷ cond (is_gt r) (x ∷ high) high) q ∙ (λ i. none_lower k ks up i ++ k ∷ all_higher k ks up i) ∙ ap (λ y. y ∷ ks) (exact k x p))
          | Greater ↦ λ p.
              let q : R x k ≡ Less = o.antisymm x k ∙ ap ordering_reverse p in
              ap (λ l. x ∷ l) (keys_put k v es h.1) ∙ sym (ap (λ r. cond (is_lt r) (x ∷ low) low ++ k ∷ cond (is_gt r) (x ∷ high) high) q)
        ] refl

  has_append : (q : K) (xs ys : List K) → has_key R q (xs ++ ys) ≡ (has_key R q xs || has_key R q ys)
  has_append q [] ys = refl
  has_append q (x ∷ xs) ys = ap (λ b. eq_by_cmp R q x || b) (has_append q xs ys) ∙ sym (or_assoc (eq_by_cmp R q x) (has_key R q xs) (has_key R q ys))

  -- it adds no other key and takes none away
  pub has_with : (q k : K) (ks : List K) → has_key R q (with_key R ks k) ≡ (eq_by_cmp R q k || has_key R q ks)
  has_with q k [] = refl
  has_with q k (x ∷ ks) =
      let low = filter (λ y. is_lt (R y k)) ks in
      let high = filter (λ y. is_gt (R y k)) ks in
      let eq = eq_by_cmp R q in
      elim (R x k) as (λ r. R x k ≡ r → has_key R q (cond (is_lt r) (x ∷ low) low ++ k ∷ cond (is_gt r) (x ∷ high) high) ≡ (eq k || (eq x || has_key R q ks))) [
        | Less ↦ λ p. ap (λ b. eq x || b) (has_with q k ks) ∙ or_swap (eq x) (eq k) (has_key R q ks)
        | Equal ↦ λ p. has_with q k ks ∙ or_twice (eq k) (has_key R q ks) ∙ ap (λ r. eq k || (is_eq r || has_key R q ks)) (sym (alike_right o x k q p))
        | Greater ↦ λ p.
            has_append q low (k ∷ x ∷ high) ∙ ap (λ b. has_key R q low || b) (or_swap (eq k) (eq x) (has_key R q high))
            ∙ or_swap (has_key R q low) (eq x) (eq k || has_key R q high) ∙ ap (λ b. eq x || b) (sym (has_append q low (k ∷ high)) ∙ has_with q k ks) ∙ or_swap (eq x) (eq k) (has_key R q ks)
      ] refl

  -- a key that ties with x doesn't tie with k, which x doesn't tie with
  apart : (q k x : K) (r : Ordering) → R k x ≡ r → (r ≡ Equal → ⊥) → eq_by_cmp R q x ≡ true → not (eq_by_cmp R q k) ≡ true
  apart q k x r p far e =
      elim (R q k) as (λ s. R q k ≡ s → not (is_eq s) ≡ true) [
        | Less ↦ λ _. refl
        | Equal ↦ λ t. absurd (far (sym p ∙ sym (o.congr q k x t) ∙ tied (R q x) e))
        | Greater ↦ λ _. refl
      ] refl

  pub has_without : (q k : K) (ks : List K) → has_key R q (all_but_key R k ks) ≡ (has_key R q ks && not (eq_by_cmp R q k))
  has_without q k [] = refl
  has_without q k (x ∷ ks) =
      let rest = all_but_key R k ks in
      let eq = eq_by_cmp R q in
      elim (R k x) as (λ r. R k x ≡ r → has_key R q (cond (not (is_eq r)) (x ∷ rest) rest) ≡ ((eq x || has_key R q ks) && not (eq k))) [
        | Less ↦ λ p. ap (λ b. eq x || b) (has_without q k ks) ∙ and_or (eq x) (has_key R q ks) (not (eq k)) (apart q k x Less p (λ e. true≢false (sym (ap is_eq e))))
        | Equal ↦ λ p. has_without q k ks ∙ dropped_or (eq k) (has_key R q ks) ∙ ap (λ r. (is_eq r || has_key R q ks) && not (eq k)) (alike_right o k x q p)
        | Greater ↦ λ p. ap (λ b. eq x || b) (has_without q k ks) ∙ and_or (eq x) (has_key R q ks) (not (eq k)) (apart q k x Greater p (λ e. true≢false (sym (ap is_eq e))))
      ] refl

module _ {K X : Type 0} (R : K → K → Ordering) where
  pub keys_where : (p : K → Bool) (es : List (K × X)) → map key_of (where_key R p es) ≡ filter p (map key_of es)
  keys_where p [] = refl
  keys_where p (e ∷ es) =
      elim (p e.0) as (λ b. map key_of (cond b (e ∷ where_key R p es) (where_key R p es)) ≡ cond b (e.0 ∷ filter p (map key_of es)) (filter p (map key_of es))) [
        | true ↦ ap (λ l. e.0 ∷ l) (keys_where p es)
        | false ↦ keys_where p es
      ]

  below_keys : (k : K) (es : List (K × X)) → T (below_all R k es) → AllByRecursion (λ x. R k x ≡ Less) (map key_of es)
  below_keys k [] h = tt
  below_keys k (e ∷ es) h = (is_less _ (first _ _ h), below_keys k es (second _ _ h))

  pub keys_rise : (es : List (K × X)) → T (is_sorted R es) → IsRising R (map key_of es)
  keys_rise [] h = tt
  keys_rise (e ∷ es) h = (below_keys e.0 es (first _ _ h), keys_rise es (second _ _ h))
