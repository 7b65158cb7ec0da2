-- Lists in the order of their members' numbers, looked up by number.
use Rattle.std.proofs.Common.{◌≡◌, ℕ, ◌+◌, ◌<◌, ◌==◌, length, take, get_or, ◌||◌, ◌&&◌, Bool, true, false, not, cond, List, [], ◌∷◌, ◌++◌, All, map, filter, filter_map, find, None, Some, sym, ap, refl, ◌∙◌, arith, T}
use Rattle.std.specs.List.{list_any}
use Rattle.std.proofs.lemmas.List.{take_more}
use Rattle.std.proofs.lemmas.List.Folds.{list_any-append}
use Rattle.core.specs.List.{cons_option}
use Rattle.core.specs.Ordering.{nat_cmp, eq_by_cmp, is_lt}
use Rattle.core.specs.Cmp.{unsigned_tied}
use Rattle.core.specs.declared.cmp.Ordering.{Ordering}
use Rattle.core.specs.FinMap.Entries as entries
use Rattle.std.proofs.lemmas.Bool.{eqb-true}
use Rattle.std.proofs.lemmas.List.Elements.{All-nil, All-cons, All-head, All-tail, All-weaker}
use Rattle.cm_map.specs.Keyed.{keyed, Rises}
use Rattle.place_laws.specs.Places.{placed}
use Rattle.place_laws.proofs.Placing.{by_test}

filter_alike : {A : Type 0} (p q : A → Bool) (xs : List A) → All (λ x. p x ≡ q x) xs → filter p xs ≡ filter q xs
filter_alike p q [] h = refl
filter_alike p q (x ∷ xs) h =
    let here : p x ≡ q x = All-head (λ x. p x ≡ q x) x xs h in
    let rest : filter p xs ≡ filter q xs = filter_alike p q xs (All-tail (λ x. p x ≡ q x) x xs h) in
    by_test (q x)
    (λ e. let d : p x ≡ true = here ∙ e in rw (d, e) (ap (λ l. x ∷ l) rest))
    (λ e. let d : p x ≡ false = here ∙ e in rw (d, e) rest)

module _ {E : Type 0} (number : E → ℕ) where
  apart : (a b : ℕ) → a < b → (b == a) ≡ false
  apart a b lt = by_test (b == a) (λ e. let k : b ≡ a = eqb-true b a e in absurd (omega (arith, k, lt))) (λ e. e)

  apart_back : (a b : ℕ) → a < b → (a == b) ≡ false
  apart_back a b lt = by_test (a == b) (λ e. let k : a ≡ b = eqb-true a b e in absurd (omega (arith, k, lt))) (λ e. e)

  flip : (a b : ℕ) → (b == a) ≡ (a == b)
  flip a b = grind arith

  -- the member that a number finds
  pub found_keyed : (p : ℕ) (xs : List E) → entries.find nat_cmp p (keyed number xs) ≡ find (λ x. number x == p) xs
  found_keyed p [] = refl
  found_keyed p (x ∷ xs) = rw (unsigned_tied p (number x) ∙ flip (number x) p, found_keyed p xs) refl

  -- one more at the end, whose number is above all others
  pub found_last : (p : ℕ) (m : E) (xs : List E) → All (λ x. number x < number m) xs
      → find (λ x. number x == p) (xs ++ m ∷ []) ≡ cond (p == number m) (Some m) (find (λ x. number x == p) xs)
  found_last p m [] h = ap (λ b. cond b (Some m) None) (flip p (number m))
  found_last p m (x ∷ xs) h =
      let lt : number x < number m = All-head (λ x. number x < number m) x xs h in
      let more : find (λ x. number x == p) (xs ++ m ∷ []) ≡ cond (p == number m) (Some m) (find (λ x. number x == p) xs) = found_last p m xs (All-tail (λ x. number x < number m) x xs h) in
      by_test (number x == p)
      (λ e. let k : number x ≡ p = eqb-true (number x) p e in
      let o : (p == number m) ≡ false = apart_back p (number m) (omega (arith, k, lt)) in
      rw (e, o) refl)
      (λ e. rw e more)

  -- one less
  pub found_without : (p n : ℕ) (xs : List E) → find (λ x. number x == p) (filter (λ x. not (number x == n)) xs) ≡ cond (p == n) None (find (λ x. number x == p) xs)
  found_without p n [] = by_test (p == n) (λ e. rw e refl) (λ e. rw e refl)
  found_without p n (x ∷ xs) = by_test (number x == n)
      (λ e. by_test (number x == p)
      (λ d. let k : number x ≡ n = eqb-true (number x) n e in
      let l : number x ≡ p = eqb-true (number x) p d in
      let o : (p == n) ≡ true = same_test p n (sym l ∙ k) in
      rw (e, d) (found_without p n xs ∙ rw o refl))
      (λ d. rw (e, d) (found_without p n xs)))
      (λ e. by_test (number x == p)
      (λ d. let l : number x ≡ p = eqb-true (number x) p d in
      let o : (p == n) ≡ false = ap (λ m. m == n) (sym l) ∙ e in
      rw (e, d, o) refl)
      (λ d. rw (e, d) (found_without p n xs)))
    where
      same_test : (a b : ℕ) → a ≡ b → (a == b) ≡ true
      same_test a b e = grind (arith, e)

  -- the numbers rise, so each member is found by its own
  pub each_found : (xs : List E) → Rises number xs → All (λ y. find (λ x. number x == number y) xs ≡ Some y) xs
  each_found [] h = All-nil (λ y. find (λ x. number x == number y) [] ≡ Some y)
  each_found (x ∷ xs) h =
      All-cons (λ y. find (λ x. number x == number y) (x ∷ xs) ≡ Some y) x xs (ap (λ b. cond b (Some x) (find (λ z. number z == number x) xs)) (self_test (number x)))
      (later xs h.0 (each_found xs h.1))
    where
      self_test : (n : ℕ) → (n == n) ≡ true
      self_test n = grind arith

      later : (ys : List E) → All (λ y. number x < number y) ys → All (λ y. find (λ z. number z == number y) xs ≡ Some y) ys → All (λ y. find (λ z. number z == number y) (x ∷ xs) ≡ Some y) ys
      later [] a b = All-nil (λ y. find (λ z. number z == number y) (x ∷ xs) ≡ Some y)
      later (y ∷ ys) a b =
          All-cons (λ y. find (λ z. number z == number y) (x ∷ xs) ≡ Some y) y ys
          (ap (λ c. cond c (Some x) (find (λ z. number z == number y) xs)) (apart_back (number x) (number y) (All-head (λ y. number x < number y) y ys a)) ∙ All-head (λ y. find (λ z. number z == number y) xs ≡ Some y) y ys b)
          (later ys (All-tail (λ y. number x < number y) y ys a) (All-tail (λ y. find (λ z. number z == number y) xs ≡ Some y) y ys b))

  -- those that have a key, found by their numbers
  found_placed : {K X : Type 0} (R : K → K → Ordering) (key : E → K) (value : E → X) (q : K) (t : E → Bool) → ((x : E) → eq_by_cmp R q (key x) ≡ t x) → (xs ys : List E)
      → All (λ y. find (λ x. number x == number y) xs ≡ Some y) ys → filter_map (λ e. find (λ x. number x == e.0) xs) (placed R key value q (keyed number ys)) ≡ filter t ys
  found_placed R key value q t alike xs [] h = refl
  found_placed R key value q t alike xs (y ∷ ys) h =
      let P : E → Type 0 = λ y. find (λ x. number x == number y) xs ≡ Some y in
      let more : filter_map (λ e. find (λ x. number x == e.0) xs) (placed R key value q (keyed number ys)) ≡ filter t ys = found_placed R key value q t alike xs ys (All-tail P y ys h) in
      by_test (t y)
      (λ e. rw (alike y ∙ e, e) (ap (λ o. cons_option o (filter_map (λ e. find (λ x. number x == e.0) xs) (placed R key value q (keyed number ys)))) (All-head P y ys h) ∙ ap (λ l. y ∷ l) more))
      (λ e. rw (alike y ∙ e, e) more)

  pub members_found : {K X : Type 0} (R : K → K → Ordering) (key : E → K) (value : E → X) (q : K) (t : E → Bool) → ((x : E) → eq_by_cmp R q (key x) ≡ t x) → (xs : List E)
      → Rises number xs → filter_map (λ e. find (λ x. number x == e.0) xs) (placed R key value q (keyed number xs)) ≡ filter t xs
  members_found R key value q t alike xs h = found_placed R key value q t alike xs xs (each_found xs h)

  -- the numbers of those that have a key
  pub numbers_placed : {K X : Type 0} (R : K → K → Ordering) (key : E → K) (value : E → X) (q : K) (t : E → Bool) → ((x : E) → eq_by_cmp R q (key x) ≡ t x) → (xs : List E)
      → map (λ e. e.0) (placed R key value q (keyed number xs)) ≡ map number (filter t xs)
  numbers_placed R key value q t alike [] = refl
  numbers_placed R key value q t alike (x ∷ xs) = by_test (t x)
      (λ e. rw (alike x ∙ e, e) (ap (λ l. number x ∷ l) (numbers_placed R key value q t alike xs)))
      (λ e. rw (alike x ∙ e, e) (numbers_placed R key value q t alike xs))

  -- in order of their numbers the members are in order
  pub sorted_keyed : (xs : List E) → Rises number xs → T (entries.is_sorted nat_cmp (keyed number xs))
  sorted_keyed [] h = tt
  sorted_keyed (x ∷ xs) h = both (entries.below_all nat_cmp (number x) (keyed number xs)) (entries.is_sorted nat_cmp (keyed number xs)) (below (number x) xs h.0) (sorted_keyed xs h.1)
    where
      both : (a b : Bool) → T a → T b → T (a && b)
      both true b p q = q
      both false b p q = absurd p

      less : (a b : ℕ) → a < b → T (is_lt (nat_cmp a b))
      less a b h = grind (arith, h)

      below : (n : ℕ) (ys : List E) → All (λ y. n < number y) ys → T (entries.below_all nat_cmp n (keyed number ys))
      below n [] h = tt
      below n (y ∷ ys) h = both (is_lt (nat_cmp n (number y))) (entries.below_all nat_cmp n (keyed number ys)) (less n (number y) (All-head (λ y. n < number y) y ys h)) (below n ys (All-tail (λ y. n < number y) y ys h))

  -- ---- those that pass a test taken out by their numbers

  abbrev has_number : ℕ → (E → Bool) → List E → Bool
  has_number n t xs = list_any (λ q. n == q) (map number (filter t xs))

  none_later : (n : ℕ) (t : E → Bool) (xs : List E) → All (λ y. n < number y) xs → has_number n t xs ≡ false
  none_later n t [] h = refl
  none_later n t (x ∷ xs) h =
      let more : has_number n t xs ≡ false = none_later n t xs (All-tail (λ y. n < number y) x xs h) in
      by_test (t x)
      (λ e. rw (e, apart_back n (number x) (All-head (λ y. n < number y) x xs h)) more)
      (λ e. rw e more)

  -- the numbers rise, so a member's is among those of the members that pass exactly where it passes
  own_number : (t : E → Bool) (xs : List E) → Rises number xs → All (λ x. has_number (number x) t xs ≡ t x) xs
  own_number t [] h = All-nil (λ x. has_number (number x) t [] ≡ t x)
  own_number t (x ∷ xs) h =
      All-cons (λ y. has_number (number y) t (x ∷ xs) ≡ t y) x xs (by_test (t x)
      (λ e. rw (e, self_test (number x)) refl)
      (λ e. rw e (none_later (number x) t xs h.0)))
      (later xs h.0 (own_number t xs h.1))
    where
      self_test : (n : ℕ) → (n == n) ≡ true
      self_test n = grind arith

      here : (y : E) → number x < number y → has_number (number y) t (x ∷ xs) ≡ has_number (number y) t xs
      here y lt = by_test (t x)
          (λ e. rw (e, apart (number x) (number y) lt) refl)
          (λ e. rw e refl)

      later : (ys : List E) → All (λ y. number x < number y) ys → All (λ y. has_number (number y) t xs ≡ t y) ys → All (λ y. has_number (number y) t (x ∷ xs) ≡ t y) ys
      later [] a b = All-nil (λ y. has_number (number y) t (x ∷ xs) ≡ t y)
      later (y ∷ ys) a b =
          All-cons (λ y. has_number (number y) t (x ∷ xs) ≡ t y) y ys
          (here y (All-head (λ y. number x < number y) y ys a) ∙ All-head (λ y. has_number (number y) t xs ≡ t y) y ys b)
          (later ys (All-tail (λ y. number x < number y) y ys a) (All-tail (λ y. has_number (number y) t xs ≡ t y) y ys b))

  pub taken_out : (t : E → Bool) (xs : List E) → Rises number xs → filter (λ x. not (list_any (λ q. number x == q) (map number (filter t xs)))) xs ≡ filter (λ x. not (t x)) xs
  taken_out t xs h = filter_alike (λ x. not (has_number (number x) t xs)) (λ x. not (t x)) xs (All-weaker (λ x. has_number (number x) t xs ≡ t x) (λ x. not (has_number (number x) t xs) ≡ not (t x)) (λ x e. ap not e) xs (own_number t xs h))

  -- one more is taken out by its number
  pub taken_more : (ns : List ℕ) (i d : ℕ) → i < length ns → (xs : List E)
      → filter (λ x. not (number x == get_or ns i d)) (filter (λ x. not (list_any (λ q. number x == q) (take i ns))) xs) ≡ filter (λ x. not (list_any (λ q. number x == q) (take (i + 1) ns))) xs
  taken_more ns i d lt [] = refl
  taken_more ns i d lt (x ∷ xs) =
      let at : list_any (λ q. number x == q) (take (i + 1) ns) ≡ (list_any (λ q. number x == q) (take i ns) || (number x == get_or ns i d)) =
      ap (list_any (λ q. number x == q)) (take_more ns i d lt)
      ∙ (list_any-append (λ q. number x == q) (take i ns) (get_or ns i d ∷ []) ∙ ap (λ b. list_any (λ q. number x == q) (take i ns) || b) (or_false (number x == get_or ns i d))) in
      by_test (list_any (λ q. number x == q) (take i ns))
      (λ e. rw (at, e) (taken_more ns i d lt xs))
      (λ e. by_test (number x == get_or ns i d)
      (λ k. rw (at, e, k) (taken_more ns i d lt xs))
      (λ k. rw (at, e, k) (ap (λ l. x ∷ l) (taken_more ns i d lt xs))))
    where
      or_false : (b : Bool) → (b || false) ≡ b
      or_false true = refl
      or_false false = refl
