-- Lists of numbers that rise, and the numbers of the objects that pass a test.
use Rattle.std.specs.Prelude.{◌≡◌, ℕ, ◌<◌, Bool, true, false, ◌&&◌, ◌||◌, List, [], ◌∷◌, map, filter, find, All, Option, Some, None, option_map, unwrap_or}
use Rattle.std.specs.List.{list_any, filter_map}
use Rattle.std.proofs.Common.{refl, sym, ap, subst, ◌∙◌, arith}
use Rattle.std.proofs.lemmas.Bool.{both_ways}
use Rattle.std.proofs.lemmas.List.Folds.{list_any_none}
use Rattle.std.proofs.lemmas.List.Elements.{All-nil, All-cons, All-head, All-tail, All-weaker}
use Rattle.cm_base.specs.declared.number.Oid.{Oid}
use Rattle.cm_base.specs.declared.object.Object.{Object}
use Rattle.cm_map.specs.Keyed.{Rises}
use Rattle.cmis_spec.specs.Repository.{Repository, same, object_at}
use Rattle.cmis_spec.specs.Access.{reads, read_at}
use Rattle.cmis_spec.specs.Well.{Apart, HasNumbers}
use Rattle.cmis_laws.proofs.Lists.{by_test, found_holds, found_passes, same_eq, same_refl, differ}
use Rattle.cmis_laws.proofs.Entries.{all_there}
use Rattle.cm_state.proofs.Numbers.{flip}
use Rattle.cm_see.proofs.SeenLists.{any_numbered}

-- ---- numbers that rise

found_in : (n : Oid) (xs : List Oid) → list_any (same n) xs ≡ true → (m : Oid) × (find (same n) xs ≡ Some m)
found_in n [] h = absurd (both_ways false refl h)
found_in n (x ∷ xs) h = by_test (same n x)
    (λ e. (x, rw e refl))
    (λ e. let rest = found_in n xs (rw e at h) in (rest.0, rw e rest.1))

below_none : (n : Oid) (ys : List Oid) → All (λ m. n.0 < m.0) ys → list_any (same n) ys ≡ false
below_none n ys h = list_any_none (same n) ys (All-weaker (λ m. n.0 < m.0) (λ m. same n m ≡ false) (λ m l. differ n m (λ k. let e : n.0 ≡ m.0 = ap (λ i. i.0) k in omega (arith, l, e))) ys h)

has_first : (x : Oid) (xs : List Oid) → list_any (same x) (x ∷ xs) ≡ true
has_first x xs = rw (same_refl x) refl

-- lists that rise and have the same members are one
pub rising_one : (xs ys : List Oid) → Rises (λ n. n.0) xs → Rises (λ n. n.0) ys → ((n : Oid) → list_any (same n) xs ≡ list_any (same n) ys) → xs ≡ ys
rising_one [] [] a b h = refl
rising_one [] (y ∷ ys) a b h = absurd (both_ways false refl (h y ∙ has_first y ys))
rising_one (x ∷ xs) [] a b h = absurd (both_ways false refl (sym (h x) ∙ has_first x xs))
rising_one (x ∷ xs) (y ∷ ys) a b h = by_test (same x y)
    (λ e. let at : x ≡ y = same_eq x y e in
    let rest : xs ≡ ys = rising_one xs ys a.1 b.1 (λ n. behind n at) in
    ap (λ z. z ∷ xs) at ∙ ap (λ zs. y ∷ zs) rest)
    (λ e. absurd (apart e))
  where
    behind : (n : Oid) → x ≡ y → list_any (same n) xs ≡ list_any (same n) ys
    behind n at = by_test (same n x)
        (λ e. let k : n ≡ x = same_eq n x e in
        subst (λ m. list_any (same m) xs ≡ list_any (same m) ys) (sym k) (below_none x xs a.0 ∙ sym (below_none x ys (subst (λ z. All (λ m. z.0 < m.0) ys) (sym at) b.0))))
        (λ e. let g : same n y ≡ false = subst (λ z. same n z ≡ false) at e in
        sym (ap (λ t. t || list_any (same n) xs) e) ∙ (h n ∙ ap (λ t. t || list_any (same n) ys) g))

    apart : same x y ≡ false → ⊥
    apart e =
        let in_ys : list_any (same x) ys ≡ true = sym (ap (λ t. t || list_any (same x) ys) e) ∙ (sym (h x) ∙ has_first x xs) in
        let other : same y x ≡ false = flip x.0 y.0 ∙ e in
        let in_xs : list_any (same y) xs ≡ true = sym (ap (λ t. t || list_any (same y) xs) other) ∙ (h y ∙ has_first y ys) in
        let p = found_in x ys in_ys in
        let q = found_in y xs in_xs in
        let yx : y.0 < x.0 = subst (λ m. y.0 < m.0) (sym (same_eq x p.0 (found_passes (same x) ys p.0 p.1))) (found_holds (λ m. y.0 < m.0) (same x) ys p.0 b.0 p.1) in
        let xy : x.0 < y.0 = subst (λ m. x.0 < m.0) (sym (same_eq y q.0 (found_passes (same y) xs q.0 q.1))) (found_holds (λ m. x.0 < m.0) (same y) xs q.0 a.0 q.1) in
        omega (arith, yx, xy)

-- ---- the numbers of what passes a test

passing_rise : (q : Object → Bool) (xs : List Object) → Apart (λ x y. x.id.0 < y.id.0) xs → Rises (λ n. n.0) (map (λ x. x.id) (filter q xs))
passing_rise q [] a = tt
passing_rise q (x ∷ xs) a = by_test (q x)
    (λ e. rw e (above xs a.0, passing_rise q xs a.1))
    (λ e. rw e (passing_rise q xs a.1))
  where
    above : (ys : List Object) → All (λ y. x.id.0 < y.id.0) ys → All (λ n. x.id.0 < n.0) (map (λ y. y.id) (filter q ys))
    above [] h = All-nil (λ n. x.id.0 < n.0)
    above (y ∷ ys) h = by_test (q y)
        (λ e. rw e (All-cons (λ n. x.id.0 < n.0) y.id (map (λ y. y.id) (filter q ys)) (All-head (λ y. x.id.0 < y.id.0) y ys h) (above ys (All-tail (λ y. x.id.0 < y.id.0) y ys h))))
        (λ e. rw e (above ys (All-tail (λ y. x.id.0 < y.id.0) y ys h)))

any_turned : (n : Oid) (xs : List Oid) → list_any (same n) xs ≡ list_any (λ m. same m n) xs
any_turned n [] = refl
any_turned n (x ∷ xs) = λ i. flip x.0 n.0 i || any_turned n xs i

-- a test of numbers that only numbers of objects pass: the numbers that pass, rising, are those of the objects that pass
pub passing_numbers : (t : Oid → Bool) (ns : List Oid) (r : Repository) → HasNumbers r → Rises (λ n. n.0) ns → ((m : Oid) → list_any (same m) ns ≡ t m)
    → ((m : Oid) → object_at r m ≡ None → t m ≡ false) → ns ≡ map (λ x. x.id) (filter (λ x. t x.id) r.objects)
passing_numbers t ns r w rise members none = rising_one ns (map (λ x. x.id) (filter (λ x. t x.id) r.objects)) rise (passing_rise (λ x. t x.id) r.objects w.0)
    (λ m. members m ∙ (sym (by m (object_at r m) refl) ∙ sym (any_turned m (map (λ x. x.id) (filter (λ x. t x.id) r.objects)) ∙ any_numbered (λ x. t x.id) m r.objects w.0)))
  where
    by : (m : Oid) (o : Option Object) → object_at r m ≡ o → unwrap_or (option_map (λ x. t x.id) o) false ≡ t m
    by m None e = sym (none m e)
    by m (Some x) e = ap t (same_eq x.id m (found_passes (λ y. same y.id m) r.objects x e))

read_in : (r : Repository) (u : List ℕ) (t : Oid → Bool) (xs : List Object) → All (λ x. object_at r x.id ≡ Some x) xs
    → filter_map (read_at r u) (map (λ x. x.id) (filter (λ x. t x.id) xs)) ≡ filter (λ x. t x.id && reads r u x) xs
read_in r u t [] h = refl
read_in r u t (x ∷ xs) h =
    let there : object_at r x.id ≡ Some x = All-head (λ x. object_at r x.id ≡ Some x) x xs h in
    let rest = read_in r u t xs (All-tail (λ x. object_at r x.id ≡ Some x) x xs h) in
    by_test (t x.id)
    (λ e. by_test (reads r u x)
    (λ d. rw (e, there, d) (ap (λ ys. x ∷ ys) rest))
    (λ d. rw (e, there, d) rest))
    (λ e. rw e rest)

-- of the objects whose numbers pass, those that the caller reads
pub passing_read : (r : Repository) (u : List ℕ) (t : Oid → Bool) → HasNumbers r → filter_map (read_at r u) (map (λ x. x.id) (filter (λ x. t x.id) r.objects)) ≡ filter (λ x. t x.id && reads r u x) r.objects
passing_read r u t w = read_in r u t r.objects (all_there r.objects w.0)

-- both at once
pub read_passing : (t : Oid → Bool) (ns : List Oid) (r : Repository) (u : List ℕ) → HasNumbers r → Rises (λ n. n.0) ns → ((m : Oid) → list_any (same m) ns ≡ t m)
    → ((m : Oid) → object_at r m ≡ None → t m ≡ false) → filter_map (read_at r u) ns ≡ filter (λ x. t x.id && reads r u x) r.objects
read_passing t ns r u w rise members none = ap (filter_map (read_at r u)) (passing_numbers t ns r w rise members none) ∙ passing_read r u t w
