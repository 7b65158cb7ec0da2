-- A list that rises by an order is the one list with its members that does.
use Rattle.std.proofs.Common.{◌≡◌, ◌∙◌, ℕ, ◌+◌, ◌<◌, ◌≤◌, suc, Bool, true, false, List, [], ◌∷◌, length, get_or, refl, sym, ap, arith, true≢false}
use Rattle.std.specs.Prelude.{All, find, Some, if◌then◌else◌}
use Rattle.std.specs.List.{sum_by}
use Rattle.std.specs.List.Sorted.{IsPermutation, IsSortedBy}
use Rattle.std.specs.Cmp.{IsTotalOrder, IsStrictWeakOrder, nat_cmp_total, then_total, on_total, back_total, tied_itself, alike_right, upto, ranked}
use Rattle.core.specs.declared.cmp.Ordering.{Ordering}
use Rattle.core.specs.declared.cmp.Ordering.TheVariants.{Less, Equal, Greater}
use Rattle.core.specs.Ordering.{ordering_then, ordering_reverse, is_eq, is_lt, is_gt}
use Rattle.std.proofs.lemmas.List.Elements.{All-nil, All-cons, All-head, All-tail, All-weaker, All-from_get_or}
use Rattle.std.proofs.lemmas.List.Sums.{sum_by-cons}
use Rattle.std.proofs.lemmas.List.Sorted.{ranks_by, sorted_far, sum_by-IsPermutation, All-permutation}
use Rattle.cm_base.specs.OrderLaws.{value_order-total}
use Rattle.cm_types.specs.Properties.{value_in}
use Rattle.ql_bind.specs.declared.bound.OrderKey.{OrderKey}
use Rattle.ql_eval.specs.declared.row.Row.{Row}
use Rattle.ql_eval.specs.Order.{value_order_by, key_order, row_order, put_row, ordered, IsEachOnce}
use Rattle.cmis_spec.specs.Repository.{same}
use Rattle.cmis_laws.proofs.Lists.{by_test, some_eq}

-- ---- the order of rows is total

value_total : (d : Bool) → IsTotalOrder (value_order_by d)
value_total false = record { antisymm = value_order-total.antisymm; trans = value_order-total.trans; congr = value_order-total.congr }
value_total true = let o = back_total value_order-total in record { antisymm = o.antisymm; trans = o.trans; congr = o.congr }

key_total : (k : OrderKey) → IsTotalOrder (key_order k)
key_total k = let o = on_total (λ (r : Row). value_in r.values k.id) (value_total k.descending) in record { antisymm = o.antisymm; trans = o.trans; congr = o.congr }

pub row_total : (ks : List OrderKey) → IsTotalOrder (row_order ks)
row_total [] = let o = on_total (λ (r : Row). r.id.0) nat_cmp_total in record { antisymm = o.antisymm; trans = o.trans; congr = o.congr }
row_total (k ∷ ks) = let o = then_total (key_total k) (row_total ks) in record { antisymm = o.antisymm; trans = o.trans; congr = o.congr }

then_tied : (o r : Ordering) → ordering_then o r ≡ Equal → r ≡ Equal
then_tied Less r e = absurd cc
then_tied Equal r e = e
then_tied Greater r e = absurd cc

-- rows that tie are of one object
pub row_tied : (ks : List OrderKey) (a b : Row) → row_order ks a b ≡ Equal → a.id.0 ≡ b.id.0
row_tied [] a b e = ranked a.id.0 b.id.0 Equal (sym e)
row_tied (k ∷ ks) a b e = row_tied ks a b (then_tied (key_order k a b) (row_order ks a b) e)

-- ---- lists that rise

module _ {X : Type 0} (R : X → X → Ordering) (o : IsTotalOrder R) where
  abbrev pub Rising : List X → Type 0
  Rising [] = Unit {0}
  Rising (x ∷ xs) = All (λ y. is_gt (R x y) ≡ false) xs × Rising xs

  turned : (r s : Ordering) → r ≡ ordering_reverse s → is_lt s ≡ false → is_gt r ≡ false
  turned r Less e h = absurd cc
  turned r Equal e h = rw e refl
  turned r Greater e h = rw e refl

  -- what a sort says of the places of a list
  pub rising_from_far : (xs : List X) → ((i j : ℕ) (d : X) → i ≤ j → j < length xs → is_lt (R (get_or xs j d) (get_or xs i d)) ≡ false) → Rising xs
  rising_from_far [] far = tt
  rising_from_far (x ∷ xs) far = (
    All-from_get_or (λ y. is_gt (R x y) ≡ false) xs x (λ i l. turned (R x (get_or xs i x)) (R (get_or xs i x) x) (o.antisymm x (get_or xs i x)) (far 0 (suc i) x (omega arith) (omega (arith, l)))),
    rising_from_far xs (λ i j d l m. far (suc i) (suc j) d (omega (arith, l)) (omega (arith, m))),
  )

  behind : (r s : Ordering) → r ≡ ordering_reverse s → is_gt r ≡ true → is_gt s ≡ false
  behind r Less e h = refl
  behind r Equal e h = absurd (true≢false (sym h ∙ ap is_gt e))
  behind r Greater e h = absurd (true≢false (sym h ∙ ap is_gt e))

  -- ---- two that rise

  abbrev indicator : X → X → ℕ
  indicator x z = if is_eq (R x z) then 1 else 0

  above_none : (x y : X) (ys : List X) → R x y ≡ Less → All (λ z. is_gt (R y z) ≡ false) ys → sum_by (indicator x) ys ≡ 0
  above_none x y [] l h = refl
  above_none x y (z ∷ zs) l h =
      let chained : R x z ≡ Less = lifted (R y z) refl (All-head (λ z. is_gt (R y z) ≡ false) z zs h) in
      let rest : sum_by (indicator x) zs ≡ 0 = above_none x y zs l (All-tail (λ z. is_gt (R y z) ≡ false) z zs h) in
      let here : indicator x z ≡ 0 = rw chained refl in
      sum_by-cons (indicator x) z zs ∙ rw (here, rest) refl
    where
      lifted : (s : Ordering) → R y z ≡ s → is_gt (R y z) ≡ false → R x z ≡ Less
      lifted Less e k = o.trans x y z l e
      lifted Equal e k = sym (alike_right o y z x e) ∙ l
      lifted Greater e k = absurd (true≢false (sym (ap is_gt e) ∙ k))

  itself : (x : X) → indicator x x ≡ 1
  itself x = rw (tied_itself o x) refl

  -- the first of a list is in no list that begins above it
  not_above : (x : X) (xs : List X) (y : X) (ys : List X) → R x y ≡ Less → All (λ z. is_gt (R y z) ≡ false) ys
      → sum_by (indicator x) (x ∷ xs) ≡ sum_by (indicator x) (y ∷ ys) → ⊥
  not_above x xs y ys l h e =
      let zero_there : sum_by (indicator x) (y ∷ ys) ≡ 0 = above_none x y (y ∷ ys) l (All-cons (λ z. is_gt (R y z) ≡ false) y ys (rw (tied_itself o y) refl) h) in
      let here : sum_by (indicator x) (x ∷ xs) ≡ indicator x x + sum_by (indicator x) xs = sum_by-cons (indicator x) x xs in
      let one : indicator x x ≡ 1 = itself x in
      absurd (omega (arith, zero_there, here, one, e))

  pub one_rising : (T : X → Type 0) → ((x y : X) → T x → T y → R x y ≡ Equal → x ≡ y) → (xs ys : List X) → Rising xs → Rising ys → All T xs → All T ys
      → ((f : X → ℕ) → sum_by f xs ≡ sum_by f ys) → xs ≡ ys
  one_rising T ties [] [] rx ry tx ty same = refl
  one_rising T ties [] (y ∷ ys) rx ry tx ty same =
      let e : 0 ≡ sum_by (λ z. 1) (y ∷ ys) = same (λ z. 1) in
      let c : sum_by (λ z. 1) (y ∷ ys) ≡ 1 + sum_by (λ z. 1) ys = sum_by-cons (λ z. 1) y ys in
      absurd (omega (arith, e, c))
  one_rising T ties (x ∷ xs) [] rx ry tx ty same =
      let e : sum_by (λ z. 1) (x ∷ xs) ≡ 0 = same (λ z. 1) in
      let c : sum_by (λ z. 1) (x ∷ xs) ≡ 1 + sum_by (λ z. 1) xs = sum_by-cons (λ z. 1) x xs in
      absurd (omega (arith, e, c))
  one_rising T ties (x ∷ xs) (y ∷ ys) rx ry tx ty same =
      let rest : x ≡ y → xs ≡ ys = λ first. one_rising T ties xs ys rx.1 ry.1 (All-tail T x xs tx) (All-tail T y ys ty) (λ f.
      let all : sum_by f (x ∷ xs) ≡ sum_by f (y ∷ ys) = same f in
      let left : sum_by f (x ∷ xs) ≡ f x + sum_by f xs = sum_by-cons f x xs in
      let right : sum_by f (y ∷ ys) ≡ f y + sum_by f ys = sum_by-cons f y ys in
      let firsts : f x ≡ f y = ap f first in
      omega (arith, all, left, right, firsts)) in
      by (R x y) refl rest
    where
      by : (r : Ordering) → R x y ≡ r → (x ≡ y → xs ≡ ys) → x ∷ xs ≡ y ∷ ys
      by Less e rest = absurd (not_above x xs y ys e ry.0 (same (indicator x)))
      by Greater e rest = absurd (not_above y ys x xs (o.antisymm y x ∙ ap ordering_reverse e) rx.0 (sym (same (indicator y))))
      by Equal e rest =
          let first : x ≡ y = ties x y (All-head T x xs tx) (All-head T y ys ty) e in
          ap (λ z. z ∷ xs) first ∙ ap (λ zs. y ∷ zs) (rest first)

-- ---- what a definition puts in order

module _ (ks : List OrderKey) where
  put_all : (P : Row → Type 0) (x : Row) (ys : List Row) → P x → All P ys → All P (put_row ks x ys)
  put_all P x [] p h = All-cons P x [] p h
  put_all P x (y ∷ ys) p h = by_test (is_gt (row_order ks x y))
      (λ e. rw e (All-cons P y (put_row ks x ys) (All-head P y ys h) (put_all P x ys p (All-tail P y ys h))))
      (λ e. rw e (All-cons P x (y ∷ ys) p h))

  put_rising : (x : Row) (ys : List Row) → Rising (row_order ks) (row_total ks) ys → Rising (row_order ks) (row_total ks) (put_row ks x ys)
  put_rising x [] h = (All-nil (λ y. is_gt (row_order ks x y) ≡ false), tt)
  put_rising x (y ∷ ys) h = by_test (is_gt (row_order ks x y))
      (λ e. rw e (
        put_all (λ z. is_gt (row_order ks y z) ≡ false) x ys (behind (row_order ks) (row_total ks) (row_order ks x y) (row_order ks y x) ((row_total ks).antisymm x y) e) h.0,
        put_rising x ys h.1,
      ))
      (λ e. rw e (
        All-cons (λ z. is_gt (row_order ks x z) ≡ false) y ys e (All-weaker (λ z. is_gt (row_order ks y z) ≡ false) (λ z. is_gt (row_order ks x z) ≡ false) (λ z k. upto (row_total ks) x y z e k) ys h.0),
        h,
      ))

  put_sum : (f : Row → ℕ) (x : Row) (ys : List Row) → sum_by f (put_row ks x ys) ≡ f x + sum_by f ys
  put_sum f x [] = sum_by-cons f x []
  put_sum f x (y ∷ ys) = by_test (is_gt (row_order ks x y))
      (λ e.
      let rest : sum_by f (put_row ks x ys) ≡ f x + sum_by f ys = put_sum f x ys in
      let whole : sum_by f (y ∷ put_row ks x ys) ≡ f y + sum_by f (put_row ks x ys) = sum_by-cons f y (put_row ks x ys) in
      let there : sum_by f (y ∷ ys) ≡ f y + sum_by f ys = sum_by-cons f y ys in
      let same : sum_by f (y ∷ put_row ks x ys) ≡ f x + sum_by f (y ∷ ys) = omega (arith, rest, whole, there) in
      rw e same)
      (λ e. rw e (sum_by-cons f x (y ∷ ys)))

  pub ordered_rising : (xs : List Row) → Rising (row_order ks) (row_total ks) (ordered ks xs)
  ordered_rising [] = tt
  ordered_rising (x ∷ xs) = put_rising x (ordered ks xs) (ordered_rising xs)

  pub ordered_all : (P : Row → Type 0) (xs : List Row) → All P xs → All P (ordered ks xs)
  ordered_all P [] h = h
  ordered_all P (x ∷ xs) h = put_all P x (ordered ks xs) (All-head P x xs h) (ordered_all P xs (All-tail P x xs h))

  pub ordered_sum : (f : Row → ℕ) (xs : List Row) → sum_by f (ordered ks xs) ≡ sum_by f xs
  ordered_sum f [] = refl
  ordered_sum f (x ∷ xs) = put_sum f x (ordered ks xs) ∙ (ap (λ n. f x + n) (ordered_sum f xs) ∙ sym (sum_by-cons f x xs))

  -- a sorted list with the members of one whose rows are each of an object of its own
  pub sorted_is_ordered : (xs ys : List Row) → IsEachOnce xs → IsPermutation xs ys → IsSortedBy (λ x y. is_lt (row_order ks x y)) ys → ys ≡ ordered ks xs
  sorted_is_ordered xs ys once p s =
      let weak : IsStrictWeakOrder (λ x y. is_lt (row_order ks x y)) = ranks_by (row_total ks) (λ x. x) in
      one_rising (row_order ks) (row_total ks) (λ x. find (λ y. same y.id x.id) xs ≡ Some x)
      (λ x y a b e. some_eq x y (sym a ∙ (ap (λ n. find (λ z. same z.id n) xs) (oid_eq x y (row_tied ks x y e)) ∙ b)))
      ys (ordered ks xs)
      (rising_from_far (row_order ks) (row_total ks) ys (λ i j d l m. sorted_far (λ x y. is_lt (row_order ks x y)) weak ys s i j d l m))
      (ordered_rising xs)
      (All-permutation (λ x. find (λ y. same y.id x.id) xs ≡ Some x) xs ys p once)
      (ordered_all (λ x. find (λ y. same y.id x.id) xs ≡ Some x) xs once)
      (λ f. sum_by-IsPermutation f xs ys p ∙ sym (ordered_sum f xs))
    where
      oid_eq : (x y : Row) → x.id.0 ≡ y.id.0 → x.id ≡ y.id
      oid_eq x y e = ap (λ n. record { 0 = n }) e
