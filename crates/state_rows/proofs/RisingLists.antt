-- Lists of numbers that rise: with the same members, they are one.
use Rattle.std.specs.Prelude.{◌≡◌, ◌<◌, Bool, true, false, ◌||◌, List, [], ◌∷◌, map, filter, find, All, Option, Some, None, is_some, option_map, unwrap_or}
use Rattle.std.specs.List.{list_any}
use Rattle.std.proofs.Common.{refl, sym, ap, subst, ◌∙◌, arith}
use Rattle.std.proofs.lemmas.Bool.{both_ways}
use Rattle.std.proofs.lemmas.List.Folds.{list_any_none}
use Rattle.std.proofs.lemmas.List.Elements.{All-nil, All-cons, All-head, All-tail, All-weaker}
use Rattle.cm_base.specs.declared.number.Oid.{Oid}
use Rattle.cm_base.specs.declared.object.Object.{Object}
use Rattle.cm_map.specs.Keyed.{Rises}
use Rattle.cmis_spec.specs.Repository.{same}
use Rattle.cmis_spec.specs.Well.{Apart}
use Rattle.cmis_laws.proofs.Lists.{by_test, find_none, found_holds, found_passes, same_eq, same_refl, differ}
use Rattle.cm_state.proofs.Numbers.{flip}

is_some_find : {A : Type 0} (p : A → Bool) (xs : List A) → is_some (find p xs) ≡ list_any p xs
is_some_find p [] = refl
is_some_find p (x ∷ xs) = by_test (p x) (λ e. rw e refl) (λ e. rw e (is_some_find p xs))

any_found : {A : Type 0} (p : A → Bool) (xs : List A) → list_any p xs ≡ true → (x : A) × (find p xs ≡ Some x)
any_found p xs h = by (find p xs) (is_some_find p xs ∙ h)
  where
    by : {A : Type 0} (o : Option A) → is_some o ≡ true → (x : A) × (o ≡ Some x)
    by None e = absurd (both_ways false refl e)
    by (Some x) e = (x, refl)

rises_filter : (q : Object → Bool) (xs : List Object) → Apart (λ x y. x.id.0 < y.id.0) xs → Rises (λ n. n.0) (map (λ x. x.id) (filter q xs))
rises_filter q [] a = tt
rises_filter q (x ∷ xs) a = by_test (q x)
    (λ e. rw e (above xs a.0, rises_filter q xs a.1))
    (λ e. rw e (rises_filter q xs a.1))
  where
    above : (ys : List Object) → All (λ y. x.id.0 < y.id.0) ys → All (λ n. x.id.0 < n.0) (map (λ y. y.id) (filter q ys))
    above [] h = All-nil (λ n. x.id.0 < n.0)
    above (y ∷ ys) h = by_test (q y)
        (λ e. rw e (All-cons (λ n. x.id.0 < n.0) y.id (map (λ y. y.id) (filter q ys)) (All-head (λ y. x.id.0 < y.id.0) y ys h) (above ys (All-tail (λ y. x.id.0 < y.id.0) y ys h))))
        (λ e. rw e (above ys (All-tail (λ y. x.id.0 < y.id.0) y ys h)))

pub any_filter : (q : Object → Bool) (n : Oid) (xs : List Object) → Apart (λ x y. x.id.0 < y.id.0) xs
    → list_any (same n) (map (λ x. x.id) (filter q xs)) ≡ unwrap_or (option_map q (find (λ x. same x.id n) xs)) false
any_filter q n [] a = refl
any_filter q n (x ∷ xs) a = by_test (same x.id n)
    (λ e.
    let at : x.id ≡ n = same_eq x.id n e in
    let none_left : find (λ y. same y.id n) xs ≡ None = find_none (λ y. same y.id n) xs (All-weaker (λ y. x.id.0 < y.id.0) (λ y. same y.id n ≡ false)
    (λ y l. differ y.id n (λ k. let m : x.id.0 ≡ y.id.0 = ap (λ i. i.0) (at ∙ sym k) in omega (arith, l, m))) xs a.0) in
    let rest : list_any (same n) (map (λ x. x.id) (filter q xs)) ≡ false = any_filter q n xs a.1 ∙ ap (λ o. unwrap_or (option_map q o) false) none_left in
    by_test (q x)
    (λ d. rw (e, d) (ap (λ b. b || list_any (same n) (map (λ x. x.id) (filter q xs))) (subst (λ m. same n m ≡ true) (sym at) (same_refl n))))
    (λ d. rw (e, d) rest))
    (λ e.
    let other : same n x.id ≡ false = flip x.id.0 n.0 ∙ e in
    by_test (q x)
    (λ d. rw (e, d, other) (any_filter q n xs a.1))
    (λ d. rw (e, d) (any_filter q n xs a.1)))

none_below : (n : Oid) (ys : List Oid) → All (λ m. n.0 < m.0) ys → list_any (same n) ys ≡ false
none_below n ys h = list_any_none (same n) ys (All-weaker (λ m. n.0 < m.0) (λ m. same n m ≡ false) (λ m l. differ n m (λ k. let e : n.0 ≡ m.0 = ap (λ i. i.0) k in omega (arith, l, e))) ys h)

has_head : (x : Oid) (xs : List Oid) → list_any (same x) (x ∷ xs) ≡ true
has_head x xs = rw (same_refl x) refl

-- with the same members, they are one; the first of one list is not below the first of the other
rising_same : (xs ys : List Oid) → Rises (λ n. n.0) xs → Rises (λ n. n.0) ys → ((n : Oid) → list_any (same n) xs ≡ list_any (same n) ys) → xs ≡ ys
rising_same [] [] a b h = refl
rising_same [] (y ∷ ys) a b h = absurd (both_ways false refl (h y ∙ has_head y ys))
rising_same (x ∷ xs) [] a b h = absurd (both_ways false refl (sym (h x) ∙ has_head x xs))
rising_same (x ∷ xs) (y ∷ ys) a b h = by_test (same x y)
    (λ e. let at : x ≡ y = same_eq x y e in
    let rest : xs ≡ ys = rising_same xs ys a.1 b.1 (λ n. drop_head n at) in
    ap (λ z. z ∷ xs) at ∙ ap (λ zs. y ∷ zs) rest)
    (λ e. absurd (apart e))
  where
    drop_head : (n : Oid) → x ≡ y → list_any (same n) xs ≡ list_any (same n) ys
    drop_head n at = by_test (same n x)
        (λ e. let k : n ≡ x = same_eq n x e in
        subst (λ m. list_any (same m) xs ≡ list_any (same m) ys) (sym k) (none_below x xs a.0 ∙ sym (none_below x ys (subst (λ z. All (λ m. z.0 < m.0) ys) (sym at) b.0))))
        (λ e. let g : same n y ≡ false = subst (λ z. same n z ≡ false) at e in
        sym (ap (λ t. t || list_any (same n) xs) e) ∙ (h n ∙ ap (λ t. t || list_any (same n) ys) g))

    apart : same x y ≡ false → ⊥
    apart e =
        let in_ys : list_any (same x) ys ≡ true = sym (ap (λ t. t || list_any (same x) ys) e) ∙ (sym (h x) ∙ has_head x xs) in
        let other : same y x ≡ false = flip x.0 y.0 ∙ e in
        let in_xs : list_any (same y) xs ≡ true = sym (ap (λ t. t || list_any (same y) xs) other) ∙ (h y ∙ has_head y ys) in
        let p = any_found (same x) ys in_ys in
        let q = any_found (same y) xs in_xs in
        let yx : y.0 < x.0 = subst (λ m. y.0 < m.0) (sym (same_eq x p.0 (found_passes (same x) ys p.0 p.1))) (found_holds (λ m. y.0 < m.0) (same x) ys p.0 b.0 p.1) in
        let xy : x.0 < y.0 = subst (λ m. x.0 < m.0) (sym (same_eq y q.0 (found_passes (same y) xs q.0 q.1))) (found_holds (λ m. x.0 < m.0) (same y) xs q.0 a.0 q.1) in
        omega (arith, yx, xy)

-- a list that rises and has the members of a filter is that filter
pub rising_filter : (q : Object → Bool) (xs : List Object) (ns : List Oid) → Apart (λ x y. x.id.0 < y.id.0) xs → Rises (λ n. n.0) ns
    → ((n : Oid) → list_any (same n) ns ≡ unwrap_or (option_map q (find (λ x. same x.id n) xs)) false) → ns ≡ map (λ x. x.id) (filter q xs)
rising_filter q xs ns a h members = rising_same ns (map (λ x. x.id) (filter q xs)) h (rises_filter q xs a) (λ n. members n ∙ sym (any_filter q n xs a))
