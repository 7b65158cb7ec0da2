-- A stable sort puts a list in the one order that its definition gives.
use Rattle.std.proofs.Common.{◌≡◌, ◌∙◌, Bool, true, false, List, [], ◌∷◌, map, refl, sym, ap, true≢false}
use Rattle.std.specs.Prelude.{if◌then◌else◌, filter, All}
use Rattle.std.specs.List.Sorted.{IsSortedBy, IsStableBy, ties}
use Rattle.std.specs.Cmp.{IsTotalOrder, IsStrictWeakOrder, tied_itself, alike_right, upto}
use Rattle.core.specs.declared.cmp.Ordering.{Ordering}
use Rattle.core.specs.declared.cmp.Ordering.TheVariants.{Less, Equal, Greater}
use Rattle.core.specs.Ordering.{ordering_reverse, is_lt, is_gt}
use Rattle.std.proofs.lemmas.List.Elements.{All-nil, All-cons, All-head, All-tail, All-weaker}
use Rattle.std.proofs.lemmas.List.Sorted.{ranks_by, sorted_far}
use Rattle.rd_order.specs.Ordered.{put_by, sorted_by}
use Rattle.cmis_laws.proofs.Lists.{by_test}
use Rattle.ql_eval.proofs.Orders.{Rising, rising_from_far}

abbrev first_of : {X : Type 0} → X → List X → X
first_of d [] = d
first_of d (x ∷ xs) = x

abbrev rest_of : {X : Type 0} → List X → List X
rest_of [] = []
rest_of (x ∷ xs) = xs

abbrev is_empty : {X : Type 0} → List X → Bool
is_empty [] = true
is_empty (x ∷ xs) = false

-- ---- what is put in order has what it is made of

put_all : {X : Type 0} (R : X → X → Ordering) (P : X → Type 0) (x : X) (ys : List X) → P x → All P ys → All P (put_by R x ys)
put_all R P x [] p h = All-cons P x [] p h
put_all R P x (y ∷ ys) p h = by_test (is_gt (R x y))
    (λ e. rw e (All-cons P y (put_by R x ys) (All-head P y ys h) (put_all R P x ys p (All-tail P y ys h))))
    (λ e. rw e (All-cons P x (y ∷ ys) p h))

pub sorted_all : {X : Type 0} (R : X → X → Ordering) (P : X → Type 0) (xs : List X) → All P xs → All P (sorted_by R xs)
sorted_all R P [] h = h
sorted_all R P (x ∷ xs) h = put_all R P x (sorted_by R xs) (All-head P x xs h) (sorted_all R P xs (All-tail P x xs h))

abbrev pub below : {X : Type 0} → (X → X → Ordering) → X → X → Bool
below R x y = is_lt (R x y)

module _ {X : Type 0} (R : X → X → Ordering) (o : IsTotalOrder R) where
  abbrev tied : X → X → Bool
  tied = ties (below R)

  -- two tie exactly where neither is less
  tied_by : (x y : X) → R x y ≡ Equal → tied x y ≡ true
  tied_by x y e = rw (e, o.antisymm y x, e) refl

  untied_less : (x y : X) → R x y ≡ Less → tied x y ≡ false
  untied_less x y e = rw e refl

  untied_greater : (x y : X) → R x y ≡ Greater → tied x y ≡ false
  untied_greater x y e = rw (e, o.antisymm y x, e) refl

  equal_of : (x y : X) → tied x y ≡ true → R x y ≡ Equal
  equal_of x y h = by (R x y) refl
    where
      by : (r : Ordering) → R x y ≡ r → R x y ≡ Equal
      by Less e = absurd (true≢false (sym h ∙ untied_less x y e))
      by Equal e = e
      by Greater e = absurd (true≢false (sym h ∙ untied_greater x y e))

  greater_of : (x y : X) → is_gt (R x y) ≡ true → R x y ≡ Greater
  greater_of x y h = by (R x y) refl
    where
      by : (r : Ordering) → R x y ≡ r → R x y ≡ Greater
      by Less e = absurd (true≢false (sym h ∙ ap is_gt e))
      by Equal e = absurd (true≢false (sym h ∙ ap is_gt e))
      by Greater e = e

  -- what ties with y does not tie with one that y comes after
  apart : (x y z : X) → is_gt (R y z) ≡ true → tied x y ≡ true → tied x z ≡ false
  apart x y z g h = untied_greater x z (o.congr x y z (equal_of x y h) ∙ greater_of y z g)

  -- ---- what the definition gives

  behind : (x y : X) → is_gt (R x y) ≡ true → is_gt (R y x) ≡ false
  behind x y h = rw (o.antisymm y x, greater_of x y h) refl

  put_rising : (x : X) (ys : List X) → Rising R o ys → Rising R o (put_by R x ys)
  put_rising x [] h = (All-nil (λ y. is_gt (R x y) ≡ false), tt)
  put_rising x (y ∷ ys) h = by_test (is_gt (R x y))
      (λ e. rw e (put_all R (λ z. is_gt (R y z) ≡ false) x ys (behind x y e) h.0, put_rising x ys h.1))
      (λ e. rw e (
        All-cons (λ z. is_gt (R x z) ≡ false) y ys e (All-weaker (λ z. is_gt (R y z) ≡ false) (λ z. is_gt (R x z) ≡ false) (λ z k. upto o x y z e k) ys h.0),
        h,
      ))

  sorted_rising : (xs : List X) → Rising R o (sorted_by R xs)
  sorted_rising [] = tt
  sorted_rising (x ∷ xs) = put_rising x (sorted_by R xs) (sorted_rising xs)

  put_ties : (x y : X) (ys : List X) → filter (tied x) (put_by R y ys) ≡ filter (tied x) (y ∷ ys)
  put_ties x y [] = refl
  put_ties x y (z ∷ zs) = by_test (is_gt (R y z))
      (λ e. by_test (tied x y)
      (λ a. rw (e, apart x y z e a) (put_ties x y zs ∙ rw a refl))
      (λ a.
      let rest : filter (tied x) (put_by R y zs) ≡ filter (tied x) zs = put_ties x y zs ∙ rw a refl in
      by_test (tied x z)
      (λ b. rw (e, b, a, rest) refl)
      (λ b. rw (e, b, a, rest) refl)))
      (λ e. rw e refl)

  with_first : (p : X → Bool) (y : X) (ys zs : List X) → filter p ys ≡ filter p zs → filter p (y ∷ ys) ≡ filter p (y ∷ zs)
  with_first p y ys zs h = by_test (p y) (λ e. rw e (ap (λ xs. y ∷ xs) h)) (λ e. rw e h)

  sorted_ties : (x : X) (xs : List X) → filter (tied x) (sorted_by R xs) ≡ filter (tied x) xs
  sorted_ties x [] = refl
  sorted_ties x (y ∷ ys) = put_ties x y (sorted_by R ys) ∙ with_first (tied x) y (sorted_by R ys) ys (sorted_ties x ys)

  -- ---- two lists that rise

  -- what is below the first one ties with none
  none_tied : (x y : X) (ys : List X) → R x y ≡ Less → All (λ z. is_gt (R y z) ≡ false) ys → filter (tied x) ys ≡ []
  none_tied x y [] l h = refl
  none_tied x y (z ∷ zs) l h =
      let here : tied x z ≡ false = untied_less x z (lifted (R y z) refl (All-head (λ z. is_gt (R y z) ≡ false) z zs h)) in
      rw here (none_tied x y zs l (All-tail (λ z. is_gt (R y z) ≡ false) z zs h))
    where
      lifted : (s : Ordering) → R y z ≡ s → is_gt (R y z) ≡ false → R x z ≡ Less
      lifted Less e k = o.trans x y z l e
      lifted Equal e k = sym (alike_right o y z x e) ∙ l
      lifted Greater e k = absurd (true≢false (sym (ap is_gt e) ∙ k))

  has_itself : (x : X) (xs : List X) → filter (tied x) (x ∷ xs) ≡ x ∷ filter (tied x) xs
  has_itself x xs = rw (tied_by x x (tied_itself o x)) refl

  not_above : (x : X) (xs : List X) (y : X) (ys : List X) → R x y ≡ Less → All (λ z. is_gt (R y z) ≡ false) ys → filter (tied x) (x ∷ xs) ≡ filter (tied x) (y ∷ ys) → ⊥
  not_above x xs y ys l h e =
      let none : filter (tied x) (y ∷ ys) ≡ [] = none_tied x y (y ∷ ys) l (All-cons (λ z. is_gt (R y z) ≡ false) y ys (rw (tied_itself o y) refl) h) in
      true≢false (sym (ap is_empty (sym (has_itself x xs) ∙ (e ∙ none))))

  same_rest : (p : X → Bool) (y : X) (ys zs : List X) → filter p (y ∷ ys) ≡ filter p (y ∷ zs) → filter p ys ≡ filter p zs
  same_rest p y ys zs h = by_test (p y) (λ e. ap rest_of (rw e at h)) (λ e. rw e at h)

  rising_same : (ys zs : List X) → Rising R o ys → Rising R o zs → ((x : X) → filter (tied x) ys ≡ filter (tied x) zs) → ys ≡ zs
  rising_same [] [] ry rz h = refl
  rising_same [] (z ∷ zs) ry rz h = absurd (true≢false (ap is_empty (h z ∙ has_itself z zs)))
  rising_same (y ∷ ys) [] ry rz h = absurd (true≢false (ap is_empty (sym (h y) ∙ has_itself y ys)))
  rising_same (y ∷ ys) (z ∷ zs) ry rz h = by (R y z) refl (rising_same ys zs ry.1 rz.1)
    where
      by : (r : Ordering) → R y z ≡ r → (((x : X) → filter (tied x) ys ≡ filter (tied x) zs) → ys ≡ zs) → y ∷ ys ≡ z ∷ zs
      by Less e same = absurd (not_above y ys z zs e rz.0 (h y))
      by Greater e same = absurd (not_above z zs y ys (o.antisymm z y ∙ ap ordering_reverse e) ry.0 (sym (h z)))
      by Equal e same =
          let here : filter (tied y) (z ∷ zs) ≡ z ∷ filter (tied y) zs = rw (tied_by y z e) refl in
          let first : y ≡ z = ap (first_of y) (sym (has_itself y ys) ∙ (h y ∙ here)) in
          let rest : (x : X) → filter (tied x) ys ≡ filter (tied x) zs = λ x. same_rest (tied x) y ys zs (h x ∙ ap (λ w. filter (tied x) (w ∷ zs)) (sym first)) in
          ap (λ w. w ∷ ys) first ∙ ap (λ ws. z ∷ ws) (same rest)

  -- a stable sort
  pub stable_is_sorted : (xs ys : List X) → IsSortedBy (below R) ys → IsStableBy (below R) xs ys → ys ≡ sorted_by R xs
  stable_is_sorted xs ys s stable =
      let weak : IsStrictWeakOrder (below R) = ranks_by o (λ x. x) in
      rising_same ys (sorted_by R xs)
      (rising_from_far R o ys (λ i j d l m. sorted_far (below R) weak ys s i j d l m))
      (sorted_rising xs)
      (λ x. stable x ∙ sym (sorted_ties x xs))

-- ---- lists of what a function gives

put_mapped : {A B : Type 0} (f : A → B) (R : B → B → Ordering) (x : A) (ys : List A) → map f (put_by (λ a b. R (f a) (f b)) x ys) ≡ put_by R (f x) (map f ys)
put_mapped f R x [] = refl
put_mapped f R x (y ∷ ys) = by_test (is_gt (R (f x) (f y)))
    (λ e. rw e (ap (λ zs. f y ∷ zs) (put_mapped f R x ys)))
    (λ e. rw e refl)

pub sorted_mapped : {A B : Type 0} (f : A → B) (R : B → B → Ordering) (xs : List A) → map f (sorted_by (λ a b. R (f a) (f b)) xs) ≡ sorted_by R (map f xs)
sorted_mapped f R [] = refl
sorted_mapped f R (x ∷ xs) = put_mapped f R x (sorted_by (λ a b. R (f a) (f b)) xs) ∙ ap (put_by R (f x)) (sorted_mapped f R xs)

-- what a function gives alike stands in the same order
put_alike : {A B : Type 0} (f g : A → B) (R : B → B → Ordering) (x : A) (ys : List A) → f x ≡ g x → All (λ y. f y ≡ g y) ys
    → put_by (λ a b. R (f a) (f b)) x ys ≡ put_by (λ a b. R (g a) (g b)) x ys
put_alike f g R x [] e h = refl
put_alike f g R x (y ∷ ys) e h =
    let here : f y ≡ g y = All-head (λ y. f y ≡ g y) y ys h in
    let rest : put_by (λ a b. R (f a) (f b)) x ys ≡ put_by (λ a b. R (g a) (g b)) x ys = put_alike f g R x ys e (All-tail (λ y. f y ≡ g y) y ys h) in
    (λ i. if is_gt (R (e i) (here i)) then y ∷ rest i else x ∷ y ∷ ys)

pub sorted_alike : {A B : Type 0} (f g : A → B) (R : B → B → Ordering) (xs : List A) → All (λ x. f x ≡ g x) xs
    → sorted_by (λ a b. R (f a) (f b)) xs ≡ sorted_by (λ a b. R (g a) (g b)) xs
sorted_alike f g R [] h = refl
sorted_alike f g R (x ∷ xs) h =
    let rest : sorted_by (λ a b. R (f a) (f b)) xs ≡ sorted_by (λ a b. R (g a) (g b)) xs = sorted_alike f g R xs (All-tail (λ x. f x ≡ g x) x xs h) in
    put_alike f g R x (sorted_by (λ a b. R (f a) (f b)) xs) (All-head (λ x. f x ≡ g x) x xs h) (sorted_all (λ a b. R (f a) (f b)) (λ x. f x ≡ g x) xs (All-tail (λ x. f x ≡ g x) x xs h))
    ∙ ap (put_by (λ a b. R (g a) (g b)) x) rest
