-- Lists of entries in order that part at a key.
use Rattle.std.proofs.Common.{◌≡◌, ℕ, zero, suc, ◌+◌, ◌<◌, get_or, flat_map, IfSome, IsSome, Bool, true, false, cond, not, ◌&&◌, T, List, [], ◌∷◌, ◌++◌, length, take, drop, Some, None, sym, subst, ap, refl, ◌∙◌, arith, Ordering, Less, Equal, Greater, is_eq, is_lt, is_gt, append_assoc, true≢false, take-append-drop}
use Rattle.std.proofs.lemmas.List.{take_more}
use Rattle.cm_map.proofs.Heads.{all_append, each_some}
use Rattle.core.specs.List.{AllByRecursion}
use Rattle.core.specs.FinMap.Entries.{put, find, is_sorted, below_all, by_order}
use Rattle.core.specs.Ordering.{eq_by_cmp, ordering_reverse}
use Rattle.core.specs.Cmp.{IsTotalOrder, alike_right}
use Rattle.std.proofs.lemmas.List.Elements.{filter-append}
use Rattle.cm_map.specs.Parts.{HeadIs, first_of, without_key}

pub both : (a b : Bool) → T a → T b → T (a && b)
both true b p q = q
both false b p q = p

pub first : (a b : Bool) → T (a && b) → T a
first true b p = tt
first false b p = p

pub second : (a b : Bool) → T (a && b) → T b
second true b p = p
second false b p = absurd p

pub is_less : (o : Ordering) → T (is_lt o) → o ≡ Less
is_less Less p = refl
is_less Equal p = absurd p
is_less Greater p = absurd p

module _ {K : Type 0} (R : K → K → Ordering) (o : IsTotalOrder R) (k : K) where
  turned : (x : K) → R x k ≡ Less → R k x ≡ Greater
  turned x h = o.antisymm k x ∙ ap ordering_reverse h

  through : (x y : K) → R y x ≡ Less → is_gt (R x k) ≡ false → R y k ≡ Less
  through x y h g =
      elim (R x k) as (λ r. R x k ≡ r → is_gt r ≡ false → R y k ≡ Less) [
        | Less ↦ λ p _. o.trans y x k h p
        | Equal ↦ λ p _. sym (alike_right o x k y p) ∙ h
        | Greater ↦ λ p q. cc
      ] refl g

module _ {K X : Type 0} (R : K → K → Ordering) where
  abbrev pub Below : K → List (K × X) → Type 0
  Below k es = AllByRecursion (λ e. R e.0 k ≡ Less) es

  abbrev pub Above : K → List (K × X) → Type 0
  Above k es = AllByRecursion (λ e. R k e.0 ≡ Less) es

  sorted_left_all : (x : K) (A B : List (K × X)) → T (below_all R x (A ++ B)) → T (below_all R x A)
  sorted_left_all x [] B h = tt
  sorted_left_all x (e ∷ A) B h = both _ _ (first _ _ h) (sorted_left_all x A B (second _ _ h))

  right_all : (x : K) (A B : List (K × X)) → T (below_all R x (A ++ B)) → T (below_all R x B)
  right_all x [] B h = h
  right_all x (e ∷ A) B h = right_all x A B (second _ _ h)

  pub sorted_left : (A B : List (K × X)) → T (is_sorted R (A ++ B)) → T (is_sorted R A)
  sorted_left [] B h = tt
  sorted_left (e ∷ A) B h = both _ _ (sorted_left_all e.0 A B (first _ _ h)) (sorted_left A B (second _ _ h))

  pub sorted_right : (A B : List (K × X)) → T (is_sorted R (A ++ B)) → T (is_sorted R B)
  sorted_right [] B h = h
  sorted_right (e ∷ A) B h = sorted_right A B (second _ _ h)

  module _ (o : IsTotalOrder R) (k : K) where
    pub put_below : (v : X) (A B : List (K × X)) → Below k A → put R k v (A ++ B) ≡ A ++ put R k v B
    put_below v [] B h = refl
    put_below v (e ∷ A) B h = ap (λ r. by_order r ((k, v) ∷ e ∷ A ++ B) ((e.0, v) ∷ A ++ B) (e ∷ put R k v (A ++ B))) (turned R o k e.0 h.0) ∙ ap (λ l. e ∷ l) (put_below v A B h.1)

    pub put_first : (v : X) (C : List (K × X)) → Above k C → put R k v C ≡ (k, v) ∷ C
    put_first v [] h = refl
    put_first v (e ∷ C) h = ap (λ r. by_order r ((k, v) ∷ e ∷ C) ((e.0, v) ∷ C) (e ∷ put R k v C)) h.0

    pub put_above : (v : X) (B C : List (K × X)) → Above k C → put R k v (B ++ C) ≡ put R k v B ++ C
    put_above v [] C h = put_first v C h
    put_above v (e ∷ B) C h =
        elim (R k e.0) as (λ r. by_order r ((k, v) ∷ e ∷ B ++ C) ((e.0, v) ∷ B ++ C) (e ∷ put R k v (B ++ C)) ≡ by_order r ((k, v) ∷ e ∷ B) ((e.0, v) ∷ B) (e ∷ put R k v B) ++ C) [
          | Less ↦ refl
          | Equal ↦ refl
          | Greater ↦ ap (λ l. e ∷ l) (put_above v B C h)
        ]

    pub find_below : (A B : List (K × X)) → Below k A → find R k (A ++ B) ≡ find R k B
    find_below [] B h = refl
    find_below (e ∷ A) B h = ap (λ r. cond (is_eq r) (Some e.1) (find R k (A ++ B))) (turned R o k e.0 h.0) ∙ find_below A B h.1

    find_none : (C : List (K × X)) → Above k C → find R k C ≡ None
    find_none [] h = refl
    find_none (e ∷ C) h = ap (λ r. cond (is_eq r) (Some e.1) (find R k C)) h.0 ∙ find_none C h.1

    pub find_above : (B C : List (K × X)) → Above k C → find R k (B ++ C) ≡ find R k B
    find_above [] C h = find_none C h
    find_above (e ∷ B) C h = ap (cond (eq_by_cmp R k e.0) (Some e.1)) (find_above B C h)

    pub without_key_below : (A : List (K × X)) → Below k A → without_key R k A ≡ A
    without_key_below [] h = refl
    without_key_below (e ∷ A) h = ap (λ r. cond (not (is_eq r)) (e ∷ without_key R k A) (without_key R k A)) (turned R o k e.0 h.0) ∙ ap (λ l. e ∷ l) (without_key_below A h.1)

    pub without_key_above : (C : List (K × X)) → Above k C → without_key R k C ≡ C
    without_key_above [] h = refl
    without_key_above (e ∷ C) h = ap (λ r. cond (not (is_eq r)) (e ∷ without_key R k C) (without_key R k C)) h.0 ∙ ap (λ l. e ∷ l) (without_key_above C h.1)

    pub below_from : (A B : List (K × X)) (x : K × X) → T (is_sorted R (A ++ x ∷ B)) → is_gt (R x.0 k) ≡ false → Below k A
    below_from [] B x h g = tt
    below_from (e ∷ A) B x h g = (through R o k x.0 e.0 (is_less _ (first _ _ (right_all e.0 A (x ∷ B) (first _ _ h)))) g, below_from A B x (second _ _ h) g)

    all_above : (x : K) (C : List (K × X)) → R k x ≡ Less → T (below_all R x C) → Above k C
    all_above x [] p h = tt
    all_above x (e ∷ C) p h = (o.trans k x e.0 p (is_less _ (first _ _ h)), all_above x C p (second _ _ h))

    pub above_from : (C : List (K × X)) → T (is_sorted R C) → HeadIs (λ e. R e.0 k ≡ Greater) C → Above k C
    above_from [] h g = tt
    above_from (e ∷ C) h g = let p : R k e.0 ≡ Less = o.antisymm k e.0 ∙ ap ordering_reverse g in (p, all_above e.0 C p (first _ _ h))

  -- where a list of blocks parts at a key
  pub record Parted {B : Type 0} (k : K) (fl : B → List (K × X)) (As Cs : List B) : Type 0 where
    pub below : Below k (flat_map fl As)
    pub above : Above k (flat_map fl Cs)

pub flat_append : {B A : Type 0} (f : B → List A) (xs ys : List B) → flat_map f (xs ++ ys) ≡ flat_map f xs ++ flat_map f ys
flat_append f [] ys = refl
flat_append f (x ∷ xs) ys = ap (λ l. f x ++ l) (flat_append f xs ys) ∙ sym (append_assoc (f x) (flat_map f xs) (flat_map f ys))

pub split_at : {B : Type 0} (bs : List B) (i : ℕ) (b : B) → i < length bs → b ≡ get_or bs i b → bs ≡ take i bs ++ b ∷ drop (i + 1) bs
split_at [] i b lt is = absurd (omega arith)
split_at (x ∷ bs) zero b lt is = λ j. sym is j ∷ bs
split_at (x ∷ bs) (suc i) b lt is = let e : suc i + 1 ≡ suc (i + 1) = omega arith in rw e (ap (λ l. x ∷ l) (split_at bs i b (omega arith) is))

pub drop_at_split : {B : Type 0} (bs : List B) (i : ℕ) (b : B) → i < length bs → b ≡ get_or bs i b → drop i bs ≡ b ∷ drop (i + 1) bs
drop_at_split [] i b lt is = absurd (omega arith)
drop_at_split (x ∷ bs) zero b lt is = λ j. sym is j ∷ bs
drop_at_split (x ∷ bs) (suc i) b lt is = let e : suc i + 1 ≡ suc (i + 1) = omega arith in rw e (drop_at_split bs i b (omega arith) is)

module _ {K X B : Type 0} (R : K → K → Ordering) (o : IsTotalOrder R) (k : K) (fl : B → List (K × X)) where
  pub from_block : (A es C : List (K × X)) → T (is_sorted R (A ++ (es ++ C))) → IsSome (first_of es) → IfSome (first_of es) (λ x. is_gt (R x k) ≡ false) → Below R k A
  from_block A [] C s h g = absurd (true≢false (sym h))
  from_block A (e ∷ es) C s h g = below_from R o k A (es ++ C) e s g

  to_block : (es C : List (K × X)) → T (is_sorted R (es ++ C)) → IsSome (first_of es) → IfSome (first_of es) (λ x. R x k ≡ Greater) → Above R k (es ++ C)
  to_block [] C s h g = absurd (true≢false (sym h))
  to_block (e ∷ es) C s h g = above_from R o k (e ∷ es ++ C) s g

  pub to_blocks : (Cs : List B) → T (is_sorted R (flat_map fl Cs)) → AllByRecursion (λ b. IsSome (first_of (fl b))) Cs → HeadIs (λ b. IfSome (first_of (fl b)) (λ x. R x k ≡ Greater)) Cs → Above R k (flat_map fl Cs)
  to_blocks [] s h g = tt
  to_blocks (c ∷ Cs) s h g = to_block (fl c) (flat_map fl Cs) s h.0 g

  pub parted : (As : List B) (b : B) (Cs : List B) → T (is_sorted R (flat_map fl (As ++ b ∷ Cs))) → AllByRecursion (λ b. IsSome (first_of (fl b))) (As ++ b ∷ Cs)
      → (0 < length As → IfSome (first_of (fl b)) (λ x. is_gt (R x k) ≡ false)) → HeadIs (λ b. IfSome (first_of (fl b)) (λ x. R x k ≡ Greater)) Cs → Parted R k fl As Cs
  parted As b Cs s h low high =
      let flat : T (is_sorted R (flat_map fl As ++ (fl b ++ flat_map fl Cs))) = subst (λ l. T (is_sorted R l)) (flat_append fl As (b ∷ Cs)) s in
      record { below = before As h low flat; above = to_blocks Cs (sorted_right R (fl b) (flat_map fl Cs) (sorted_right R (flat_map fl As) (fl b ++ flat_map fl Cs) flat)) (after As h).1 high }
    where
      after : (As : List B) → AllByRecursion (λ b. IsSome (first_of (fl b))) (As ++ b ∷ Cs) → IsSome (first_of (fl b)) × AllByRecursion (λ b. IsSome (first_of (fl b))) Cs
      after [] h = h
      after (a ∷ As) h = after As h.1

      before : (As : List B) → AllByRecursion (λ b. IsSome (first_of (fl b))) (As ++ b ∷ Cs) → (0 < length As → IfSome (first_of (fl b)) (λ x. is_gt (R x k) ≡ false)) → T (is_sorted R (flat_map fl As ++ (fl b ++ flat_map fl Cs))) → Below R k (flat_map fl As)
      before [] h low s = tt
      before (a ∷ As) h low s = from_block (flat_map fl (a ∷ As)) (fl b) (flat_map fl Cs) s (after As h.1).0 (low (omega arith))

pub singles : {A : Type 0} (es : List A) → flat_map (λ e. e ∷ []) es ≡ es
singles [] = refl
singles (e ∷ es) = ap (λ l. e ∷ l) (singles es)

module _ {K X : Type 0} (R : K → K → Ordering) (o : IsTotalOrder R) (exact : (x y : K) → R x y ≡ Equal → x ≡ y) (k : K) (es : List (K × X)) where
  -- no entry ties with the key, which would stand at n
  pub record Clear (n : ℕ) : Type 0 where
    pub puts : (v : X) → put R k v es ≡ take n es ++ (k, v) ∷ drop n es
    pub removes : without_key R k es ≡ take n es ++ drop n es
    pub absent : find R k es ≡ None

  pub clear : (n : ℕ) → Below R k (take n es) → Above R k (drop n es) → Clear n
  clear n b a =
      let A = take n es in
      let C = drop n es in
      let e : es ≡ A ++ C = sym (take-append-drop n es) in
      record {
        puts = λ v. ap (put R k v) e ∙ put_below R o k v A C b ∙ ap (λ l. A ++ l) (put_first R o k v C a);
        removes = ap (without_key R k) e ∙ filter-append _ A C ∙ (λ i. without_key_below R o k A b i ++ without_key_above R o k C a i);
        absent = ap (find R k) e ∙ find_below R o k A C b ∙ find_none R o k C a;
      }

  -- the entry at i ties with the key
  pub record Tied (i : ℕ) (x : K × X) : Type 0 where
    pub puts : (v : X) → put R k v es ≡ take i es ++ (k, v) ∷ drop (i + 1) es
    pub removes : without_key R k es ≡ take i es ++ drop (i + 1) es
    pub found : find R k es ≡ Some x.1

  pub tied : (i : ℕ) (x : K × X) → i < length es → x ≡ get_or es i x → Below R k (take i es) → Above R k (drop (i + 1) es) → R k x.0 ≡ Equal → Tied i x
  tied i x lt is b a p =
      let A = take i es in
      let C = drop (i + 1) es in
      let e : es ≡ A ++ x ∷ C = split_at es i x lt is in
      record {
        puts = λ v. ap (put R k v) e ∙ put_below R o k v A (x ∷ C) b ∙ ap (λ r. A ++ by_order r ((k, v) ∷ x ∷ C) ((x.0, v) ∷ C) (x ∷ put R k v C)) p ∙ ap (λ y. A ++ (y, v) ∷ C) (sym (exact k x.0 p));
        removes = ap (without_key R k) e ∙ filter-append _ A (x ∷ C) ∙ ap (λ r. without_key R k A ++ cond (not (is_eq r)) (x ∷ without_key R k C) (without_key R k C)) p ∙ (λ j. without_key_below R o k A b j ++ without_key_above R o k C a j);
        found = ap (find R k) e ∙ find_below R o k A (x ∷ C) b ∙ ap (λ r. cond (is_eq r) (Some x.1) (find R k C)) p;
      }

below_more : {K X : Type 0} (R : K → K → Ordering) (k : K) (es : List (K × X)) (i : ℕ) (x : K × X) → i < length es → x ≡ get_or es i x → Below R k (take i es) → R x.0 k ≡ Less → Below R k (take (i + 1) es)
below_more R k es i x lt is b p = subst (λ l. Below R k l) (sym (take_more es i x lt ∙ ap (λ y. take i es ++ y ∷ []) (sym is))) (all_append _ (take i es) (x ∷ []) b (p, tt))

length_positive : {A : Type 0} (es : List A) (i : ℕ) → 0 < length (take i es) → 0 < i
length_positive [] zero h = h
length_positive [] (suc i) h = omega arith
length_positive (e ∷ es) zero h = h
length_positive (e ∷ es) (suc i) h = omega arith

heads_single : {K X : Type 0} (R : K → K → Ordering) (k : K) (Cs : List (K × X)) → HeadIs (λ e. R e.0 k ≡ Greater) Cs → HeadIs (λ b. IfSome (first_of (b ∷ [])) (λ x. R x k ≡ Greater)) Cs
heads_single R k [] h = h
heads_single R k (c ∷ Cs) h = h

-- what `place` found, at single entries
pub sides : {K X : Type 0} (R : K → K → Ordering) (o : IsTotalOrder R) (k : K) (es : List (K × X)) (i : ℕ) (x : K × X) → T (is_sorted R es) → i < length es → x ≡ get_or es i x
    → (0 < i → HeadIs (λ e. is_gt (R e.0 k) ≡ false) (drop i es)) → HeadIs (λ e. R e.0 k ≡ Greater) (drop (i + 1) es) → Parted R k (λ e. e ∷ []) (take i es) (drop (i + 1) es)
sides R o k es i x s lt is low high =
    let e : es ≡ take i es ++ x ∷ drop (i + 1) es = split_at es i x lt is in
    let d : drop i es ≡ x ∷ drop (i + 1) es = drop_at_split es i x lt is in
    parted R o k (λ e. e ∷ []) (take i es) x (drop (i + 1) es)
    (subst (λ l. T (is_sorted R l)) (e ∙ sym (singles (take i es ++ x ∷ drop (i + 1) es))) s)
    (each_some _ (λ _. refl) (take i es ++ x ∷ drop (i + 1) es))
    (λ p. subst (λ l. HeadIs (λ e. is_gt (R e.0 k) ≡ false) l) d (low (length_positive es i p)))
    (heads_single R k (drop (i + 1) es) high)

-- the three answers of comparing with the entry that `place` found
module _ {K X : Type 0} (R : K → K → Ordering) (o : IsTotalOrder R) (exact : (x y : K) → R x y ≡ Equal → x ≡ y) (k : K) (es : List (K × X)) (i : ℕ) (x : K × X)
    (s : T (is_sorted R es)) (lt : i < length es) (is : x ≡ get_or es i x)
    (low : 0 < i → HeadIs (λ e. is_gt (R e.0 k) ≡ false) (drop i es)) (high : HeadIs (λ e. R e.0 k ≡ Greater) (drop (i + 1) es)) where
  pub at_less : R k x.0 ≡ Less → Clear R o exact k es i
  at_less p =
      let h = sides R o k es i x s lt is low high in
      clear R o exact k es i (subst (λ l. Below R k l) (singles (take i es)) h.below) (subst (λ l. Above R k l) (sym (drop_at_split es i x lt is)) (p, subst (λ l. Above R k l) (singles (drop (i + 1) es)) h.above))

  pub at_equal : R k x.0 ≡ Equal → Tied R o exact k es i x
  at_equal p =
      let h = sides R o k es i x s lt is low high in
      tied R o exact k es i x lt is (subst (λ l. Below R k l) (singles (take i es)) h.below) (subst (λ l. Above R k l) (singles (drop (i + 1) es)) h.above) p

  pub at_greater : R k x.0 ≡ Greater → Clear R o exact k es (i + 1)
  at_greater p =
      let h = sides R o k es i x s lt is low high in
      clear R o exact k es (i + 1) (below_more R k es i x lt is (subst (λ l. Below R k l) (singles (take i es)) h.below) (o.antisymm x.0 k ∙ ap ordering_reverse p)) (subst (λ l. Above R k l) (singles (drop (i + 1) es)) h.above)
