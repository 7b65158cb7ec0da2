-- A list in the order of its members' numbers, as a map from number to member.
use Rattle.std.proofs.Common.{◌≡◌, ℕ, ◌<◌, ◌≤◌, ◌==◌, nat_lt, if◌then◌else◌, is_some, List, [], ◌∷◌, ◌++◌, All, map, find, filter, not, Bool, true, false, refl, ap, sym, ◌∙◌, arith, subst, T, ◌&&◌}
use Rattle.std.specs.Ordering.{nat_cmp}
use Rattle.std.specs.Cmp.{nat_cmp_is}
use Rattle.std.proofs.lemmas.Bool.{eqb-true, both_ways, ltb-true, ltb-false}
use Rattle.std.proofs.lemmas.List.Elements.{All-nil, All-head, All-tail, All-cons, All-weaker}
use Rattle.core.specs.Ordering.{is_eq, is_lt}
use Rattle.core.specs.declared.cmp.Ordering.TheVariants.{Equal, Greater}
use Rattle.core.specs.FinMap.Entries as entries
use Rattle.cm_map.specs.Keyed.{keyed, Rises}
use Rattle.cm_map.specs.Parts.{without_key}

pub by_test : {G : Type 0} (b : Bool) → (b ≡ true → G) → (b ≡ false → G) → G
by_test {G} b f g = elim b as (λ c. b ≡ c → G) [ true ↦ f | false ↦ g ] refl

pub ties : (a b : ℕ) → is_eq (nat_cmp a b) ≡ (b == a)
ties a b = by_test (b == a)
    (λ e. let k : a ≡ b = sym (eqb-true b a e) in rw (e, ← nat_cmp_is a b Equal k) refl)
    (λ e. grind (arith, e))

pub map-keyed : {V : Type 0} (number : V → ℕ) (xs : List V) → map (λ e. e.1) (keyed number xs) ≡ xs
map-keyed number [] = refl
map-keyed number (x ∷ xs) = ap (λ ys. x ∷ ys) (map-keyed number xs)

-- the member that a number finds
pub find-keyed : {V : Type 0} (number : V → ℕ) (n : ℕ) (xs : List V) → entries.find nat_cmp n (keyed number xs) ≡ find (λ x. (number x) == n) xs
find-keyed number n [] = refl
find-keyed number n (x ∷ xs) = rw (ties n (number x), find-keyed number n xs) refl

-- a member put behind all others
pub put-last : {V : Type 0} (number : V → ℕ) (m : V) (xs : List V) → All (λ x. (number x) < (number m)) xs → entries.put nat_cmp (number m) m (keyed number xs) ≡ keyed number (xs ++ m ∷ [])
put-last number m [] all = refl
put-last number m (x ∷ xs) all =
    let past : (number x) < (number m) = All-head (λ x. (number x) < (number m)) x xs all in
    rw (← nat_cmp_is (number m) (number x) Greater past)
    (ap (λ es. (number x, x) ∷ es) (put-last number m xs (All-tail (λ x. (number x) < (number m)) x xs all)))

-- a map with a member behind all others
pub with-last : {V : Type 0} (number : V → ℕ) (es fs : List (ℕ × V)) (k : ℕ) (m : V) → es ≡ keyed number (map (λ e. e.1) es) → k ≡ number m → All (λ x. (number x) < (number m)) (map (λ e. e.1) es)
    → fs ≡ entries.put nat_cmp k m es → fs ≡ keyed number (map (λ e. e.1) es ++ m ∷ [])
with-last number es fs k m is at all put_so =
    let xs = map (λ (e : ℕ × _). e.1) es in
    put_so ∙ (ap (λ k. entries.put nat_cmp k m es) at ∙ (ap (entries.put nat_cmp (number m) m) is ∙ put-last number m xs all))

-- ---- a member in the place of another

none_some : {V : Type 0} (p : V → Bool) (xs : List V) → All (λ x. p x ≡ false) xs → is_some (find p xs) ≡ false
none_some p [] all = refl
none_some p (x ∷ xs) all = rw (All-head (λ x. p x ≡ false) x xs all) (none_some p xs (All-tail (λ x. p x ≡ false) x xs all))

-- where nothing has the number, nothing changes
map-beside : {V : Type 0} (p : V → Bool) (m : V) (xs : List V) → All (λ x. p x ≡ false) xs → map (λ x. if p x then m else x) xs ≡ xs
map-beside p m [] all = refl
map-beside p m (x ∷ xs) all = rw (All-head (λ x. p x ≡ false) x xs all) (ap (λ ys. x ∷ ys) (map-beside p m xs (All-tail (λ x. p x ≡ false) x xs all)))

above : (a b n : ℕ) → n ≤ a → a < b → (b == n) ≡ false
above a b n l h = by_test (b == n) (λ e. let k : b ≡ n = eqb-true b n e in absurd (omega (arith, k, l, h))) (λ e. e)

past_all : {V : Type 0} (number : V → ℕ) (x : V) (n : ℕ) (xs : List V) → n ≤ (number x) → All (λ y. (number x) < (number y)) xs → All (λ y. ((number y) == n) ≡ false) xs
past_all number x n xs l all = All-weaker (λ y. (number x) < (number y)) (λ y. ((number y) == n) ≡ false) (λ y h. above (number x) (number y) n l h) xs all

pub put-in : {V : Type 0} (number : V → ℕ) (m : V) (xs : List V) → Rises number xs → is_some (find (λ x. (number x) == (number m)) xs) ≡ true
    → entries.put nat_cmp (number m) m (keyed number xs) ≡ keyed number (map (λ x. if (number x) == (number m) then m else x) xs)
put-in number m [] rises there = absurd (both_ways false refl there)
put-in number m (x ∷ xs) rises there = by_test ((number x) == (number m))
    (λ e. let k : (number m) ≡ (number x) = sym (eqb-true (number x) (number m) e) in
    let beside = map-beside (λ y. (number y) == (number m)) m xs (past_all number x (number m) xs (omega (arith, k)) rises.0) in
    rw (e, ← nat_cmp_is (number m) (number x) Equal k) (ap (λ n. (n, m) ∷ keyed number xs) (sym k) ∙ ap (λ ys. (number m, m) ∷ keyed number ys) (sym beside)))
    (λ e. by_test (nat_lt (number x) (number m))
    (λ l. let past : (number x) < (number m) = ltb-true (number x) (number m) l in
    rw (e, ← nat_cmp_is (number m) (number x) Greater past) (ap (λ es. (number x, x) ∷ es) (put-in number m xs rises.1 (rw e at there))))
    (λ l. let less : (number m) ≤ (number x) = ltb-false (number x) (number m) l in
    absurd (both_ways (is_some (find (λ y. (number y) == (number m)) (x ∷ xs)))
    (none_some (λ y. (number y) == (number m)) (x ∷ xs) (All-cons (λ y. ((number y) == (number m)) ≡ false) x xs e (past_all number x (number m) xs less rises.0))) there)))

-- ---- a member taken out

pub without-keyed : {V : Type 0} (number : V → ℕ) (n : ℕ) (xs : List V) → without_key nat_cmp n (keyed number xs) ≡ keyed number (filter (λ x. not ((number x) == n)) xs)
without-keyed number n [] = refl
without-keyed number n (x ∷ xs) = by_test ((number x) == n)
    (λ e. rw (ties n (number x), e) (without-keyed number n xs))
    (λ e. rw (ties n (number x), e) (ap (λ es. (number x, x) ∷ es) (without-keyed number n xs)))

-- ---- what a map is, once it is a list by its numbers

pub stays_keyed : {V : Type 0} (number : V → ℕ) (fs : List (ℕ × V)) (ys : List V) → fs ≡ keyed number ys → fs ≡ keyed number (map (λ e. e.1) fs)
stays_keyed number fs ys e = e ∙ ap (keyed number) (sym (ap (map (λ e. e.1)) e ∙ map-keyed number ys))

pub list_of : {V : Type 0} (number : V → ℕ) (fs : List (ℕ × V)) (ys : List V) → fs ≡ keyed number ys → map (λ e. e.1) fs ≡ ys
list_of number fs ys e = ap (map (λ e. e.1)) e ∙ map-keyed number ys

-- ---- the numbers rise

pub rises-keyed : {V : Type 0} (number : V → ℕ) (xs : List V) → T (entries.is_sorted nat_cmp (keyed number xs)) → Rises number xs
rises-keyed number [] h = tt
rises-keyed number (x ∷ xs) h = (above (number x) xs (first (entries.below_all nat_cmp (number x) (keyed number xs)) (entries.is_sorted nat_cmp (keyed number xs)) h), rises-keyed number xs (second (entries.below_all nat_cmp (number x) (keyed number xs)) (entries.is_sorted nat_cmp (keyed number xs)) h))
  where
    first : (a b : Bool) → T (a && b) → T a
    first true b p = tt
    first false b p = p

    second : (a b : Bool) → T (a && b) → T b
    second true b p = p
    second false b p = absurd p

    less : (a b : ℕ) → T (is_lt (nat_cmp a b)) → a < b
    less a b h = grind (arith, h)

    above : (n : ℕ) (ys : List _) → T (entries.below_all nat_cmp n (keyed number ys)) → All (λ y. n < number y) ys
    above n [] h = All-nil (λ y. n < number y)
    above n (y ∷ ys) h = All-cons (λ y. n < number y) y ys (less n (number y) (first (is_lt (nat_cmp n (number y))) (entries.below_all nat_cmp n (keyed number ys)) h))
        (above n ys (second (is_lt (nat_cmp n (number y))) (entries.below_all nat_cmp n (keyed number ys)) h))

pub rises : {V : Type 0} (number : V → ℕ) (es : List (ℕ × V)) → es ≡ keyed number (map (λ e. e.1) es) → T (entries.is_sorted nat_cmp es) → Rises number (map (λ e. e.1) es)
rises number es is sorted = rises-keyed number (map (λ e. e.1) es) (subst (λ fs. T (entries.is_sorted nat_cmp fs)) is sorted)
