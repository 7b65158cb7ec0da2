-- Numbers that rise: two such lists with the same members are one.
use Rattle.std.specs.Prelude.{◌≡◌, ℕ, ◌<◌, Bool, true, false, ◌||◌, List, [], ◌∷◌, map, filter, All}
use Rattle.std.specs.List.{list_any}
use Rattle.std.proofs.Common.{refl, sym, ap, subst, ◌∙◌, arith, Less}
use Rattle.std.proofs.lemmas.Bool.{both_ways, eqb-true, eq-eqb}
use Rattle.std.proofs.lemmas.List.Folds.{list_any_none}
use Rattle.std.proofs.lemmas.List.Elements.{All-nil, All-cons, All-head, All-tail, All-weaker}
use Rattle.core.specs.List.{AllByRecursion}
use Rattle.core.specs.Ordering.{nat_cmp, MatchOrdering}
use Rattle.core.specs.Cmp.{ranks}
use Rattle.cm_base.specs.declared.number.Oid.{Oid}
use Rattle.cm_base.specs.declared.object.Object.{Object}
use Rattle.cm_map.specs.Keyed.{Rises}
use Rattle.cm_map.specs.Sets.{IsRising}
use Rattle.cmis_spec.specs.Repository.{same}

pub by_test : {G : Type 0} (b : Bool) → (b ≡ true → G) → (b ≡ false → G) → G
by_test {G} b f g = elim b as (λ c. b ≡ c → G) [ true ↦ f | false ↦ g ] refl

pub same_eq : (a b : Oid) → same a b ≡ true → a ≡ b
same_eq a b h = ap (λ n. record { 0 = n }) (eqb-true a.0 b.0 h)

pub same_refl : (a : Oid) → same a a ≡ true
same_refl a = eq-eqb a.0 a.0 refl

pub differ : (a b : Oid) → (a ≡ b → ⊥) → same a b ≡ false
differ a b h = by_test (same a b) (λ e. absurd (h (same_eq a b e))) (λ e. e)

-- ---- lists of numbers

none_below : (n : Oid) (ys : List Oid) → All (λ m. n.0 < m.0) ys → list_any (same n) ys ≡ false
none_below n ys h = list_any_none (same n) ys (All-weaker (λ m. n.0 < m.0) (λ m. same n m ≡ false) (λ m l. differ n m (λ k. let e : n.0 ≡ m.0 = ap (λ i. i.0) k in omega (arith, l, e))) ys h)

has_head : (x : Oid) (xs : List Oid) → list_any (same x) (x ∷ xs) ≡ true
has_head x xs = rw (same_refl x) refl

-- a member is above what all are above
above : (x y : Oid) (ys : List Oid) → All (λ m. y.0 < m.0) ys → list_any (same x) ys ≡ true → y.0 < x.0
above x y [] all h = absurd (both_ways false refl h)
above x y (z ∷ zs) all h = by_test (same x z)
    (λ e. subst (λ m. y.0 < m.0) (sym (same_eq x z e)) (All-head (λ m. y.0 < m.0) z zs all))
    (λ e. above x y zs (All-tail (λ m. y.0 < m.0) z zs all) (sym (ap (λ t. t || list_any (same x) zs) e) ∙ h))

-- with the same members, they are one; the first of one list is not below the first of the other
pub rising_same : (xs ys : List Oid) → Rises (λ n. n.0) xs → Rises (λ n. n.0) ys → ((n : Oid) → list_any (same n) xs ≡ list_any (same n) ys) → xs ≡ ys
rising_same [] [] a b h = refl
rising_same [] (y ∷ ys) a b h = absurd (both_ways false refl (h y ∙ has_head y ys))
rising_same (x ∷ xs) [] a b h = absurd (both_ways false refl (sym (h x) ∙ has_head x xs))
rising_same (x ∷ xs) (y ∷ ys) a b h = by_test (same x y)
    (λ e. let at : x ≡ y = same_eq x y e in
    let rest : xs ≡ ys = rising_same xs ys a.1 b.1 (λ n. drop_head n at) in
    ap (λ z. z ∷ xs) at ∙ ap (λ zs. y ∷ zs) rest)
    (λ e. absurd (apart e))
  where
    drop_head : (n : Oid) → x ≡ y → list_any (same n) xs ≡ list_any (same n) ys
    drop_head n at = by_test (same n x)
        (λ e. let k : n ≡ x = same_eq n x e in
        subst (λ m. list_any (same m) xs ≡ list_any (same m) ys) (sym k) (none_below x xs a.0 ∙ sym (none_below x ys (subst (λ z. All (λ m. z.0 < m.0) ys) (sym at) b.0))))
        (λ e. let g : same n y ≡ false = subst (λ z. same n z ≡ false) at e in
        sym (ap (λ t. t || list_any (same n) xs) e) ∙ (h n ∙ ap (λ t. t || list_any (same n) ys) g))

    apart : same x y ≡ false → ⊥
    apart e =
        let in_ys : list_any (same x) ys ≡ true = sym (ap (λ t. t || list_any (same x) ys) e) ∙ (sym (h x) ∙ has_head x xs) in
        let other : same y x ≡ false = differ y x (λ k. both_ways (same x y) e (subst (λ z. same z y ≡ true) k (same_refl y))) in
        let in_xs : list_any (same y) xs ≡ true = sym (ap (λ t. t || list_any (same y) xs) other) ∙ (h y ∙ has_head y ys) in
        let yx : y.0 < x.0 = above x y ys b.0 in_ys in
        let xy : x.0 < y.0 = above y x xs a.0 in_xs in
        omega (arith, yx, xy)

-- ---- rising, in the words of lists and of sets

less_of : (a b : ℕ) → nat_cmp a b ≡ Less → a < b
less_of a b e = subst (λ r. MatchOrdering r (a < b) (a ≡ b) (b < a)) e (ranks a b)

pub rises_by_cmp : (ns : List Oid) → IsRising (λ x y. nat_cmp x.0 y.0) ns → Rises (λ n. n.0) ns
rises_by_cmp [] h = tt
rises_by_cmp (n ∷ ns) h = (all ns h.0, rises_by_cmp ns h.1)
  where
    all : (ms : List Oid) → AllByRecursion (λ m. nat_cmp n.0 m.0 ≡ Less) ms → All (λ m. n.0 < m.0) ms
    all [] h = All-nil (λ m. n.0 < m.0)
    all (m ∷ ms) h = All-cons (λ m. n.0 < m.0) m ms (less_of n.0 m.0 h.0) (all ms h.1)

-- ---- the numbers of some objects

pub rises_filter : (q : Object → Bool) (xs : List Object) → Rises (λ x. x.id.0) xs → Rises (λ n. n.0) (map (λ x. x.id) (filter q xs))
rises_filter q [] a = tt
rises_filter q (x ∷ xs) a = by_test (q x)
    (λ e. rw e (later xs a.0, rises_filter q xs a.1))
    (λ e. rw e (rises_filter q xs a.1))
  where
    later : (ys : List Object) → All (λ y. x.id.0 < y.id.0) ys → All (λ n. x.id.0 < n.0) (map (λ y. y.id) (filter q ys))
    later [] h = All-nil (λ n. x.id.0 < n.0)
    later (y ∷ ys) h = by_test (q y)
        (λ e. rw e (All-cons (λ n. x.id.0 < n.0) y.id (map (λ y. y.id) (filter q ys)) (All-head (λ y. x.id.0 < y.id.0) y ys h) (later ys (All-tail (λ y. x.id.0 < y.id.0) y ys h))))
        (λ e. rw e (later ys (All-tail (λ y. x.id.0 < y.id.0) y ys h)))
