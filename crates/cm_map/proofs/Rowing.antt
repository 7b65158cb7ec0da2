-- Rows that are parted, joined and mended.
use Rattle.std.proofs.Common.{◌≡◌, ℕ, zero, suc, ◌+◌, ◌-◌, ◌<◌, ◌≤◌, T, List, [], ◌∷◌, ◌++◌, map, length, take, drop, get_or, flat_map, Option, Some, None, IfSome, IsSome, is_gt, false, true, sym, subst, ap, refl, ◌∙◌, arith, cond, Bool, is_some, option_copied, Bor, Ordering, Greater, append_assoc, take-append-drop, not}
use mathlib.Core.List.{map-append}
use Rattle.core.specs.List.{AllByRecursion}
use Rattle.core.specs.FinMap.Entries.{put, find, is_sorted, length-put, length_without, is_sorted-put, is_sorted-where_key}
use Rattle.core.specs.Cmp.{IsTotalOrder}
use Rattle.core.specs.Ordering.{eq_by_cmp}
use Rattle.std.proofs.lemmas.List.Elements.{filter-append}
use Rattle.std.proofs.lemmas.List.Concat.{flat_map-append}
use Rattle.cm_map.specs.Parts.{HeadIs, first_of, without_key}
use Rattle.cm_map.proofs.Parting.{Below, Above, put_below, put_above, find_below, find_above, without_key_below, without_key_above, parted, Parted, split_at, drop_at_split, sorted_left, sorted_right}
use Rattle.cm_map.specs.Rows.{Spaced, change}
use Rattle.cm_map.specs.Sizes.{full, few}

pub all_left : {X : Type 0} (P : X → Type 0) (xs ys : List X) → AllByRecursion P (xs ++ ys) → AllByRecursion P xs
all_left P [] ys h = tt
all_left P (x ∷ xs) ys h = (h.0, all_left P xs ys h.1)

pub all_right : {X : Type 0} (P : X → Type 0) (xs ys : List X) → AllByRecursion P (xs ++ ys) → AllByRecursion P ys
all_right P [] ys h = h
all_right P (x ∷ xs) ys h = all_right P xs ys h.1

pub all_both : {X : Type 0} (P : X → Type 0) (xs ys : List X) → AllByRecursion P xs → AllByRecursion P ys → AllByRecursion P (xs ++ ys)
all_both P [] ys h k = k
all_both P (x ∷ xs) ys h k = (h.0, all_both P xs ys h.1 k)

pub all_map : {X : Type 0} (P Q : X → Type 0) → ((x : X) → P x → Q x) → (xs : List X) → AllByRecursion P xs → AllByRecursion Q xs
all_map P Q f [] h = tt
all_map P Q f (x ∷ xs) h = (f x h.0, all_map P Q f xs h.1)

head_left : (P : ℕ → Type 0) (xs ys : List ℕ) → HeadIs P (xs ++ ys) → HeadIs P xs
head_left P [] ys h = tt
head_left P (x ∷ xs) ys h = h

pub spaced_left : (xs ys : List ℕ) → Spaced (xs ++ ys) → Spaced xs
spaced_left [] ys h = tt
spaced_left (x ∷ xs) ys h = (h.0, h.1, head_left _ xs ys h.2, spaced_left xs ys h.3)

pub spaced_right : (xs ys : List ℕ) → Spaced (xs ++ ys) → Spaced ys
spaced_right [] ys h = h
spaced_right (x ∷ xs) ys h = spaced_right xs ys h.3

head_meet : (P : ℕ → Type 0) (L : List ℕ) (l : ℕ) (R : List ℕ) → HeadIs P (L ++ l ∷ []) → HeadIs P (L ++ l ∷ R)
head_meet P [] l R h = h
head_meet P (x ∷ L) l R h = h

pub spaced_meet : (L : List ℕ) (l r : ℕ) (R : List ℕ) → Spaced (L ++ l ∷ []) → Spaced (r ∷ R) → few < l + r → Spaced (L ++ l ∷ r ∷ R)
spaced_meet [] l r R h k m = (h.0, h.1, m, k)
spaced_meet (x ∷ L) l r R h k m = (h.0, h.1, head_meet _ L l (r ∷ R) h.2, spaced_meet L l r R h.3 k m)

head_merge : (x : ℕ) (L : List ℕ) (l b : ℕ) (R : List ℕ) → l ≤ b → HeadIs (λ y. few < x + y) (L ++ l ∷ []) → HeadIs (λ y. few < x + y) (L ++ b ∷ R)
head_merge x [] l b R le h = omega (arith, h)
head_merge x (y ∷ L) l b R le h = h

head_more : (r b : ℕ) (R : List ℕ) → r ≤ b → HeadIs (λ y. few < r + y) R → HeadIs (λ y. few < b + y) R
head_more r b [] le h = tt
head_more r b (y ∷ R) le h = omega (arith, h)

pub spaced_merge : (L : List ℕ) (l r b : ℕ) (R : List ℕ) → Spaced (L ++ l ∷ []) → Spaced (r ∷ R) → l ≤ b → r ≤ b → b ≤ full → Spaced (L ++ b ∷ R)
spaced_merge [] l r b R h k m n o = (omega (arith, h.0), o, head_more r b R n k.2, k.3)
spaced_merge (x ∷ L) l r b R h k m n o = (h.0, h.1, head_merge x L l b R m h.2, spaced_merge L l r b R h.3 k m n o)

pub map_push : {A B : Type 0} (f : A → B) (vs L : List A) (x : A) → vs ≡ L ++ x ∷ [] → map f vs ≡ map f L ++ f x ∷ []
map_push f vs L x e = ap (map f) e ∙ map-append f L (x ∷ [])

pub drop_one : {B : Type 0} (right : List B) (r : B) → 0 < length right → r ≡ get_or right 0 r → right ≡ r ∷ drop 1 right
drop_one [] r lt is = absurd (omega (arith, lt))
drop_one (x ∷ right) r lt is = λ i. sym is i ∷ right

module _ {B : Type 0} (count : B → ℕ) (left L : List B) (l : B) (right : List B) (r : B) (e : left ≡ L ++ l ∷ []) (lt : 0 < length right) (is : r ≡ get_or right 0 r)
    (h : Spaced (map count left)) (k : Spaced (map count right)) where
  left_counts : Spaced (map count L ++ count l ∷ [])
  left_counts = subst Spaced (map_push count left L l e) h

  right_counts : Spaced (count r ∷ map count (drop 1 right))
  right_counts = subst (λ x. Spaced (map count x)) (drop_one right r lt is) k

  pub meet_rows : few < count l + count r → Spaced (map count ((L ++ l ∷ []) ++ right))
  meet_rows m =
      let s = spaced_meet (map count L) (count l) (count r) (map count (drop 1 right)) left_counts right_counts m in
      subst Spaced
      (sym (map-append count (L ++ l ∷ []) right ∙ (λ i. map-append count L (l ∷ []) i ++ map count (drop_one right r lt is i)) ∙ append_assoc (map count L) (count l ∷ []) (count r ∷ map count (drop 1 right))))
      s

  pub merge_rows : (b : B) → count l ≤ count b → count r ≤ count b → count b ≤ full → Spaced (map count ((L ++ b ∷ []) ++ drop 1 right))
  merge_rows b m n o =
      let s = spaced_merge (map count L) (count l) (count r) (count b) (map count (drop 1 right)) left_counts right_counts m n o in
      subst Spaced
      (sym (map-append count (L ++ b ∷ []) (drop 1 right) ∙ (λ i. map-append count L (b ∷ []) i ++ map count (drop 1 right)) ∙ append_assoc (map count L) (count b ∷ []) (map count (drop 1 right))))
      s

-- the parts of a row before and after an index
pub all_take : {X : Type 0} (P : X → Type 0) (n : ℕ) (xs : List X) → AllByRecursion P xs → AllByRecursion P (take n xs)
all_take P n xs h = all_left P (take n xs) (drop n xs) (subst (AllByRecursion P) (sym (take-append-drop n xs)) h)

pub all_drop : {X : Type 0} (P : X → Type 0) (n : ℕ) (xs : List X) → AllByRecursion P xs → AllByRecursion P (drop n xs)
all_drop P n xs h = all_right P (take n xs) (drop n xs) (subst (AllByRecursion P) (sym (take-append-drop n xs)) h)

pub spaced_take : {B : Type 0} (count : B → ℕ) (n : ℕ) (xs : List B) → Spaced (map count xs) → Spaced (map count (take n xs))
spaced_take count n xs h = spaced_left (map count (take n xs)) (map count (drop n xs)) (subst Spaced (sym (ap (map count) (take-append-drop n xs)) ∙ map-append count (take n xs) (drop n xs)) h)

pub spaced_drop : {B : Type 0} (count : B → ℕ) (n : ℕ) (xs : List B) → Spaced (map count xs) → Spaced (map count (drop n xs))
spaced_drop count n xs h = spaced_right (map count (take n xs)) (map count (drop n xs)) (subst Spaced (sym (ap (map count) (take-append-drop n xs)) ∙ map-append count (take n xs) (drop n xs)) h)

module _ {K X : Type 0} (R : K → K → Ordering) (o : IsTotalOrder R) (k : K) where
  -- a change falls into the block that `place` found
  pub change_mid : (new : Option (K × X)) (A es C : List (K × X)) → Below R k A → Above R k C → change R k new (A ++ (es ++ C)) ≡ A ++ (change R k new es ++ C)
  change_mid None A es C b a =
      filter-append _ A (es ++ C) ∙ (λ i. without_key_below R o k A b i ++ filter-append (λ e. not (eq_by_cmp R k e.0)) es C i) ∙ ap (λ l. A ++ (without_key R k es ++ l)) (without_key_above R o k C a)
  change_mid (Some e) A es C b a = put_below R o k e.1 A (es ++ C) b ∙ ap (λ l. A ++ l) (put_above R o k e.1 es C a)

  pub find_mid : (A es C : List (K × X)) → Below R k A → Above R k C → find R k (A ++ (es ++ C)) ≡ find R k es
  find_mid A es C b a = find_below R o k A (es ++ C) b ∙ find_above R o k es C a

-- what `place` found, in a row of blocks
module _ {K X B : Type 0} (R : K → K → Ordering) (o : IsTotalOrder R) (k : K) (entries : B → List (K × X)) (first : B → Option K) (bs : List B) (i : ℕ) (b : B)
    (heads : AllByRecursion (λ b. (first b ≡ first_of (entries b)) × IsSome (first b)) bs)
    (s : T (is_sorted R (flat_map entries bs))) (lt : i < length bs) (is : b ≡ get_or bs i b)
    (low : 0 < i → HeadIs (λ b. IfSome (first b) (λ x. is_gt (R x k) ≡ false)) (drop i bs)) (high : HeadIs (λ b. IfSome (first b) (λ x. R x k ≡ Greater)) (drop (i + 1) bs)) where
  the_split : bs ≡ take i bs ++ b ∷ drop (i + 1) bs
  the_split = split_at bs i b lt is

  pub flat_split : flat_map entries bs ≡ flat_map entries (take i bs) ++ (entries b ++ flat_map entries (drop (i + 1) bs))
  flat_split = ap (flat_map entries) the_split ∙ flat_map-append entries (take i bs) (b ∷ drop (i + 1) bs)

  pub block_sorted : T (is_sorted R (entries b))
  block_sorted =
      let whole = subst (λ l. T (is_sorted R l)) flat_split s in
      sorted_left R (entries b) (flat_map entries (drop (i + 1) bs)) (sorted_right R (flat_map entries (take i bs)) (entries b ++ flat_map entries (drop (i + 1) bs)) whole)

  pub row_parted : Parted R k entries (take i bs) (drop (i + 1) bs)
  row_parted =
      parted R o k entries (take i bs) b (drop (i + 1) bs)
      (subst (λ l. T (is_sorted R (flat_map entries l))) the_split s)
      (subst (AllByRecursion (λ b. IsSome (first_of (entries b)))) the_split (all_map _ _ (λ b h. subst IsSome h.0 h.1) bs heads))
      (λ p. subst (λ m. IfSome m (λ x. is_gt (R x k) ≡ false)) here.0 (subst (HeadIs (λ b. IfSome (first b) (λ x. is_gt (R x k) ≡ false))) (drop_at_split bs i b lt is) (low (positive bs i p))))
      (after (drop (i + 1) bs) (all_drop _ (i + 1) bs heads) high)
    where
      here : (first b ≡ first_of (entries b)) × IsSome (first b)
      here = (all_right _ (take i bs) (b ∷ drop (i + 1) bs) (subst (AllByRecursion _) the_split heads)).0

      positive : (bs : List B) (i : ℕ) → 0 < length (take i bs) → 0 < i
      positive [] zero h = h
      positive [] (suc i) h = omega arith
      positive (e ∷ es) zero h = h
      positive (e ∷ es) (suc i) h = omega arith

      after : (Cs : List B) → AllByRecursion (λ b. (first b ≡ first_of (entries b)) × IsSome (first b)) Cs → HeadIs (λ b. IfSome (first b) (λ x. R x k ≡ Greater)) Cs → HeadIs (λ b. IfSome (first_of (entries b)) (λ x. R x k ≡ Greater)) Cs
      after [] h g = g
      after (c ∷ Cs) h g = subst (λ m. IfSome m (λ x. R x k ≡ Greater)) h.0.0 g

cond_most : (b : Bool) (n : ℕ) → cond b n (n + 1) ≤ n + 1
cond_most true n = omega arith
cond_most false n = omega arith

pub change_length : {K X : Type 0} (R : K → K → Ordering) (o : IsTotalOrder R) (k : K) (new : Option (K × X)) (es : List (K × X)) → T (is_sorted R es) → length (change R k new es) ≤ length es + 1
change_length R o k None es s = omega (arith, length_without R o k es s)
change_length R o k (Some e) es s = rw (length-put R o k e.1 es s) (cond_most (is_some (find R k es)) (length es))

pub sorted_change : {K X : Type 0} (R : K → K → Ordering) (o : IsTotalOrder R) (k : K) (new : Option (K × X)) (es : List (K × X)) → T (is_sorted R es) → T (is_sorted R (change R k new es))
sorted_change R o k None es s = is_sorted-where_key R _ es s
sorted_change R o k (Some e) es s = is_sorted-put R o k e.1 es s

pub is_some-copied : {X : Type 0} (r : Option (Bor X)) → is_some (option_copied r) ≡ is_some r
is_some-copied None = refl
is_some-copied (Some x) = refl

module _ {K X : Type 0} (R : K → K → Ordering) (o : IsTotalOrder R) (k : K) where
  pub put_old : (v : X) (es : List (K × X)) → T (is_sorted R es) → is_some (find R k es) ≡ true → length (put R k v es) ≡ length es
  put_old v es s h = length-put R o k v es s ∙ ap (λ b. cond b (length es) (length es + 1)) h

  pub put_new : (v : X) (es : List (K × X)) → T (is_sorted R es) → is_some (find R k es) ≡ false → length (put R k v es) ≡ length es + 1
  put_new v es s h = length-put R o k v es s ∙ ap (λ b. cond b (length es) (length es + 1)) h

  pub without_key_old : (es : List (K × X)) → T (is_sorted R es) → is_some (find R k es) ≡ true → length (without_key R k es) ≡ length es - 1
  without_key_old es s h = let e : 1 + length (without_key R k es) ≡ length es = subst (λ b. cond b 1 0 + length (without_key R k es) ≡ length es) h (length_without R o k es s) in omega (arith, e)

  pub without_key_new : (es : List (K × X)) → T (is_sorted R es) → is_some (find R k es) ≡ false → length (without_key R k es) ≡ length es
  without_key_new es s h = let e : 0 + length (without_key R k es) ≡ length es = subst (λ b. cond b 1 0 + length (without_key R k es) ≡ length es) h (length_without R o k es s) in omega (arith, e)

-- each block of a sorted row is sorted
pub sorted_at : {K X B : Type 0} (R : K → K → Ordering) (entries : B → List (K × X)) (bs : List B) (i : ℕ) (b : B) → T (is_sorted R (flat_map entries bs)) → i < length bs → b ≡ get_or bs i b → T (is_sorted R (entries b))
sorted_at R entries bs i b s lt is =
    let e = ap (flat_map entries) (split_at bs i b lt is) ∙ flat_map-append entries (take i bs) (b ∷ drop (i + 1) bs) in
    let whole = subst (λ l. T (is_sorted R l)) e s in
    sorted_left R (entries b) (flat_map entries (drop (i + 1) bs)) (sorted_right R (flat_map entries (take i bs)) (entries b ++ flat_map entries (drop (i + 1) bs)) whole)
