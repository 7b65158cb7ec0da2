-- What lies in a range, in a row that parts at its ends.
use Rattle.std.proofs.Common.{◌≡◌, ℕ, zero, suc, ◌+◌, ◌<◌, flat_map, map, take, drop, Option, Some, IfSome, IsSome, Bool, true, false, cond, not, ◌&&◌, T, List, [], ◌∷◌, ◌++◌, length, sym, subst, ap, refl, ◌∙◌, arith, Ordering, Greater, is_lt, is_gt, take-append-drop, length-take-le}
use Rattle.std.proofs.lemmas.List.{append-nil, take-map, drop-map, length-map}
use Rattle.core.specs.List.{AllByRecursion}
use Rattle.core.specs.FinMap.Entries.{is_sorted, where_key}
use Rattle.core.specs.Ordering.{ordering_reverse}
use Rattle.core.specs.Cmp.{IsTotalOrder}
use Rattle.std.proofs.lemmas.List.Elements.{filter-append}
use Rattle.cm_map.specs.Parts.{HeadIs, IsBetween, first_of, within}
use Rattle.cm_map.proofs.Heads.{each_some}
use Rattle.cm_map.proofs.Parting.{Below, Above, from_block, to_blocks, flat_append, sorted_right, sorted_left, singles}

and_false : (b : Bool) → (b && false) ≡ false
and_false true = refl
and_false false = refl

all_right : {X : Type 0} (P : X → Type 0) (xs ys : List X) → AllByRecursion P (xs ++ ys) → AllByRecursion P ys
all_right P [] ys h = h
all_right P (x ∷ xs) ys h = all_right P xs ys h.1

module _ {K X : Type 0} (R : K → K → Ordering) (o : IsTotalOrder R) (least most : K) where
  abbrev kept : List (K × X) → List (K × X)
  kept = where_key R (within R least most)

  none_below : (es : List (K × X)) → Below R least es → kept es ≡ []
  none_below [] h = refl
  none_below (e ∷ es) h = ap (λ r. cond (not (is_lt r) && not (is_gt (R e.0 most))) (e ∷ kept es) (kept es)) h.0 ∙ none_below es h.1

  none_above : (es : List (K × X)) → Above R most es → kept es ≡ []
  none_above [] h = refl
  none_above (e ∷ es) h =
      let p : R e.0 most ≡ Greater = o.antisymm e.0 most ∙ ap ordering_reverse h.0 in
      ap (λ r. cond (not (is_lt (R e.0 least)) && not (is_gt r)) (e ∷ kept es) (kept es)) p ∙ ap (λ b. cond b (e ∷ kept es) (kept es)) (and_false (not (is_lt (R e.0 least)))) ∙ none_above es h.1

  module _ {B : Type 0} (fl : B → List (K × X)) where
    before_least : (As : List B) (m : B) (Ds : List B) → T (is_sorted R (flat_map fl (As ++ m ∷ Ds))) → IsSome (first_of (fl m)) → (0 < length As → IfSome (first_of (fl m)) (λ x. is_gt (R x least) ≡ false)) → Below R least (flat_map fl As)
    before_least [] m Ds s some low = tt
    before_least (a ∷ As) m Ds s some low = from_block R o least fl (flat_map fl (a ∷ As)) (fl m) (flat_map fl Ds) (subst (λ l. T (is_sorted R l)) (flat_append fl (a ∷ As) (m ∷ Ds)) s) some (low (omega arith))

    first_below : (As mid Cs : List B) → 0 < length mid → T (is_sorted R (flat_map fl (As ++ (mid ++ Cs)))) → AllByRecursion (λ b. IsSome (first_of (fl b))) (mid ++ Cs) → (0 < length As → HeadIs (λ b. IfSome (first_of (fl b)) (λ x. is_gt (R x least) ≡ false)) (mid ++ Cs)) → Below R least (flat_map fl As)
    first_below As [] Cs some s heads low = absurd (omega (arith, some))
    first_below As (m ∷ mid) Cs some s heads low = before_least As m (mid ++ Cs) s heads.0 low

    pub kept_between : (bs mid : List B) → T (is_sorted R (flat_map fl bs)) → AllByRecursion (λ b. IsSome (first_of (fl b))) bs → IsBetween (λ b. first_of (fl b)) R least most bs mid → kept (flat_map fl bs) ≡ kept (flat_map fl mid)
    kept_between bs mid s heads h =
        let A = flat_map fl h.before in
        let M = flat_map fl mid in
        let C = flat_map fl h.past in
        let s2 : T (is_sorted R (flat_map fl (h.before ++ (mid ++ h.past)))) = subst (λ l. T (is_sorted R (flat_map fl l))) h.parts s in
        let d = subst (AllByRecursion (λ b. IsSome (first_of (fl b)))) h.parts heads in
        let flat : flat_map fl (h.before ++ (mid ++ h.past)) ≡ A ++ (M ++ C) = flat_append fl h.before (mid ++ h.past) ∙ ap (λ l. A ++ l) (flat_append fl mid h.past) in
        let s3 : T (is_sorted R (A ++ (M ++ C))) = subst (λ l. T (is_sorted R l)) flat s2 in
        let low = first_below h.before mid h.past h.some s2 (all_right _ h.before (mid ++ h.past) d) h.low in
        let high = to_blocks R o most fl h.past (sorted_right R M C (sorted_right R A (M ++ C) s3)) (all_right _ mid h.past (all_right _ h.before (mid ++ h.past) d)) h.high in
        ap (λ l. kept (flat_map fl l)) h.parts ∙ ap kept flat ∙ filter-append _ A (M ++ C) ∙ ap (λ l. kept A ++ l) (filter-append _ M C)
        ∙ (λ i. none_below A low i ++ (kept M ++ none_above C high i)) ∙ append-nil (kept M)

    pub sorted_between : (first : B → Option K) (bs mid : List B) → T (is_sorted R (flat_map fl bs)) → IsBetween first R least most bs mid → T (is_sorted R (flat_map fl mid))
    sorted_between first bs mid s h =
        let A = flat_map fl h.before in
        let M = flat_map fl mid in
        let C = flat_map fl h.past in
        let flat : flat_map fl bs ≡ A ++ (M ++ C) = ap (flat_map fl) h.parts ∙ flat_append fl h.before (mid ++ h.past) ∙ ap (λ l. A ++ l) (flat_append fl mid h.past) in
        sorted_left R M C (sorted_right R A (M ++ C) (subst (λ l. T (is_sorted R l)) flat s))

head_same : {B K : Type 0} (P : K → Type 0) (f g : B → Option K) (bs : List B) → AllByRecursion (λ b. f b ≡ g b) bs → HeadIs (λ b. IfSome (f b) P) bs → HeadIs (λ b. IfSome (g b) P) bs
head_same P f g [] e h = h
head_same P f g (b ∷ bs) e h = subst (λ m. IfSome m P) e.0 h

-- two ways to read the first key
pub between_same : {B K : Type 0} (R : K → K → Ordering) (least most : K) (f g : B → Option K) (bs mid : List B) → AllByRecursion (λ b. f b ≡ g b) bs → IsBetween f R least most bs mid → IsBetween g R least most bs mid
between_same R least most f g bs mid e h =
    let d = subst (AllByRecursion (λ b. f b ≡ g b)) h.parts e in
    let right = all_right _ h.before (mid ++ h.past) d in
    record {
      before = h.before;
      past = h.past;
      parts = h.parts;
      some = h.some;
      low = λ p. head_same (λ x. is_gt (R x least) ≡ false) f g (mid ++ h.past) right (h.low p);
      high = head_same (λ x. R x most ≡ Greater) f g h.past (all_right _ mid h.past right) h.high;
    }

-- entries one by one
pub entries_between : {K X : Type 0} (R : K → K → Ordering) (o : IsTotalOrder R) (least most : K) (es mid : List (K × X)) → T (is_sorted R es) → IsBetween (λ (e : K × X). Some e.0) R least most es mid → where_key R (within R least most) es ≡ where_key R (within R least most) mid
entries_between R o least most es mid s h =
    ap (where_key R (within R least most)) (sym (singles es))
    ∙ kept_between R o least most (λ e. e ∷ []) es mid (subst (λ l. T (is_sorted R l)) (sym (singles es)) s) (each_some _ (λ _. refl) es) h
    ∙ ap (where_key R (within R least most)) (singles mid)

all_drop : {X : Type 0} (P : X → Type 0) (n : ℕ) (xs : List X) → AllByRecursion P xs → AllByRecursion P (drop n xs)
all_drop P n xs h = all_right P (take n xs) (drop n xs) (subst (AllByRecursion P) (sym (take-append-drop n xs)) h)

-- the members from an index on begin with keys too
pub rest_heads : {X B K : Type 0} (value : X → B) (first : B → Option K) (xs : List X) (from : ℕ) → AllByRecursion (λ b. IsSome (first b)) (map value xs) → AllByRecursion (λ b. IsSome (first b)) (map value (drop from xs))
rest_heads value first xs from h = subst (AllByRecursion (λ b. IsSome (first b))) (drop-map value from xs) (all_drop _ from (map value xs) h)

-- what two searches found
module _ {X B K : Type 0} (value : X → B) (first : B → Option K) (R : K → K → Ordering) (least most : K) (xs : List X) (from last : ℕ) where
  pub two_places : from < length xs → last < length (drop from xs)
      → (0 < from → HeadIs (λ b. IfSome (first b) (λ x. is_gt (R x least) ≡ false)) (drop from (map value xs)))
      → HeadIs (λ b. IfSome (first b) (λ x. R x most ≡ Greater)) (drop (last + 1) (map value (drop from xs)))
      → IsBetween first R least most (map value xs) (map value (take (last + 1) (drop from xs)))
  two_places lt lt2 low high =
      let rest = map value (drop from xs) in
      let e1 : map value (take (last + 1) (drop from xs)) ≡ take (last + 1) rest = sym (take-map value (last + 1) (drop from xs)) in
      let e2 : drop from (map value xs) ≡ rest = drop-map value from xs in
      let e3 : rest ≡ map value (take (last + 1) (drop from xs)) ++ drop (last + 1) rest = sym (take-append-drop (last + 1) rest) ∙ ap (λ l. l ++ drop (last + 1) rest) (sym e1) in
      record {
        before = take from (map value xs);
        past = drop (last + 1) rest;
        parts = sym (take-append-drop from (map value xs)) ∙ ap (λ l. take from (map value xs) ++ l) (e2 ∙ e3);
        some = omega (arith, length-map (take (last + 1) (drop from xs)) value, length-take-le (last + 1) (drop from xs) (omega (arith, lt2)));
        low = λ p. subst (HeadIs _) (e2 ∙ e3) (low (positive from (map value xs) p));
        high = high;
      }
    where
      positive : {A : Type 0} (n : ℕ) (l : List A) → 0 < length (take n l) → 0 < n
      positive zero [] h = h
      positive zero (a ∷ l) h = h
      positive (suc n) l h = omega arith

all_left : {X : Type 0} (P : X → Type 0) (xs ys : List X) → AllByRecursion P (xs ++ ys) → AllByRecursion P xs
all_left P [] ys h = tt
all_left P (x ∷ xs) ys h = (h.0, all_left P xs ys h.1)

-- what holds of all holds of those between
pub all_between : {B K : Type 0} (P : B → Type 0) (first : B → Option K) (R : K → K → Ordering) (least most : K) (bs mid : List B) → AllByRecursion P bs → IsBetween first R least most bs mid → AllByRecursion P mid
all_between P first R least most bs mid a h = all_left P mid h.past (all_right P h.before (mid ++ h.past) (subst (AllByRecursion P) h.parts a))
