-- What an index of a list of objects has, after an object more, one less, and one in the place of another.
use Rattle.std.specs.Prelude.{◌≡◌, ℕ, ◌+◌, ◌<◌, length, take, Bool, true, false, ◌||◌, ◌&&◌, not, if◌then◌else◌, List, [], ◌∷◌, ◌++◌, map, filter, find, All, is_some}
use Rattle.std.specs.List.{list_any}
use Rattle.std.proofs.Common.{suc, get_or, refl, sym, ap, subst, ◌∙◌, arith}
use lib.Seq.{take-suc}
use Rattle.std.proofs.lemmas.Bool.{both_ways}
use Rattle.std.proofs.lemmas.List.Folds.{list_any-append}
use Rattle.std.proofs.lemmas.List.Elements.{All-head, All-tail}
use Rattle.cm_base.specs.declared.number.Oid.{Oid}
use Rattle.cm_base.specs.declared.object.Object.{Object}
use Rattle.cm_map.specs.Keyed.{Rises}
use Rattle.cmis_spec.specs.Repository.{same}
use Rattle.cm_objects.specs.declared.index_key.IndexKey.{IndexKey}
use Rattle.cm_objects.specs.Pairs.{same_key, same_pair}
use Rattle.cm_objects.specs.Indexed.{keys_of, keys_at, is_pair_of, is_keyed}
use Rattle.cm_objects.proofs.Rising.{by_test, same_eq, same_refl, differ}

-- ---- booleans

or_false : (b : Bool) → (b || false) ≡ b
or_false b = grind arith

-- ---- one more

pub keyed_last : (xs : List Object) (m : Object) (p : IndexKey × Oid) → is_keyed (xs ++ m ∷ []) p ≡ (is_keyed xs p || is_pair_of m.id (keys_of m) p)
keyed_last xs m p = list_any-append (λ x. is_pair_of x.id (keys_of x) p) xs (m ∷ []) ∙ ap (λ b. is_keyed xs p || b) (or_false (is_pair_of m.id (keys_of m) p))

-- ---- one less

pub keyed_less : (n : Oid) (p : IndexKey × Oid) (xs : List Object) → is_keyed (filter (λ x. not (same x.id n)) xs) p ≡ (is_keyed xs p && not (same n p.1))
keyed_less n p [] = refl
keyed_less n p (x ∷ xs) = by_test (same x.id n)
    (λ e. rw e (keyed_less n p xs ∙ gone (list_any (same_key p.0) (keys_of x)) (is_keyed xs p) (same n p.1) (same x.id p.1) (ap (λ m. same m p.1) (same_eq x.id n e))))
    (λ e. rw e (ap (λ b. is_pair_of x.id (keys_of x) p || b) (keyed_less n p xs) ∙ by_test (same x.id p.1)
    (λ d. let o : same n p.1 ≡ false = differ n p.1 (λ k. both_ways (same x.id n) e (subst (λ m. same x.id m ≡ true) (sym k) d)) in
    rw (d, o) (kept (list_any (same_key p.0) (keys_of x)) (is_keyed xs p)))
    (λ d. rw d refl)))
  where
    gone : (k rest mine its : Bool) → its ≡ mine → (rest && not mine) ≡ ((its && k || rest) && not mine)
    gone k rest mine its e = grind (arith, e)

    kept : (k rest : Bool) → (k || rest && true) ≡ ((k || rest) && true)
    kept k rest = grind arith

-- with numbers apart, the keys under a number are those of its object
none_at : (n : Oid) (p : IndexKey × Oid) (xs : List Object) → All (λ x. n.0 < x.id.0) xs → same n p.1 ≡ true → is_keyed xs p ≡ false
none_at n p [] all h = refl
none_at n p (x ∷ xs) all h =
    let l : n.0 < x.id.0 = All-head (λ x. n.0 < x.id.0) x xs all in
    let o : same x.id p.1 ≡ false = differ x.id p.1 (λ k. let e : n.0 ≡ x.id.0 = ap (λ i. i.0) (same_eq n p.1 h ∙ sym k) in omega (arith, e, l)) in
    rw o (none_at n p xs (All-tail (λ x. n.0 < x.id.0) x xs all) h)

keyed_at : (n : Oid) (p : IndexKey × Oid) (xs : List Object) → Rises (λ x. x.id.0) xs → same n p.1 ≡ true → is_keyed xs p ≡ list_any (same_key p.0) (keys_at xs n)
keyed_at n p [] rises h = refl
keyed_at n p (x ∷ xs) rises h = by_test (same x.id n)
    (λ e. let at : same x.id p.1 ≡ true = subst (λ m. same m p.1 ≡ true) (sym (same_eq x.id n e)) h in
    rw (e, at) (ap (λ b. list_any (same_key p.0) (keys_of x) || b) (none_at x.id p xs rises.0 at) ∙ or_false (list_any (same_key p.0) (keys_of x))))
    (λ e. let o : same x.id p.1 ≡ false = differ x.id p.1 (λ k. both_ways (same x.id n) e (subst (λ m. same m n ≡ true) (sym k) (subst (λ m. same p.1 m ≡ true) (sym (same_eq n p.1 h)) (same_refl p.1)))) in
    rw (e, o) (keyed_at n p xs rises.1 h))

pub keyed_without : (n : Oid) (p : IndexKey × Oid) (xs : List Object) → Rises (λ x. x.id.0) xs → (is_keyed xs p && not (is_pair_of n (keys_at xs n) p)) ≡ is_keyed (filter (λ x. not (same x.id n)) xs) p
keyed_without n p xs rises = by_test (same n p.1)
    (λ e. rw e (ap (λ b. b && not (list_any (same_key p.0) (keys_at xs n))) (keyed_at n p xs rises e) ∙ never (list_any (same_key p.0) (keys_at xs n)) (is_keyed xs p)))
    (λ e. rw e refl) ∙ sym (keyed_less n p xs)
  where
    never : (a b : Bool) → (a && not a) ≡ (b && false)
    never a b = grind arith

-- the index of all has the pairs of the others, and those of the one under this number
pub keyed_apart : (n : Oid) (p : IndexKey × Oid) (xs : List Object) → Rises (λ x. x.id.0) xs
    → is_keyed xs p ≡ (is_keyed (filter (λ x. not (same x.id n)) xs) p || is_pair_of n (keys_at xs n) p)
keyed_apart n p xs rises = by_test (same n p.1)
    (λ e. let k = keyed_at n p xs rises e in
    rw e (split (is_keyed xs p) (list_any (same_key p.0) (keys_at xs n)) (is_keyed (filter (λ x. not (same x.id n)) xs) p) k (keyed_less n p xs ∙ ap (λ b. is_keyed xs p && not b) e)))
    (λ e. rw e (alone (is_keyed xs p) (is_keyed (filter (λ x. not (same x.id n)) xs) p) (keyed_less n p xs ∙ ap (λ b. is_keyed xs p && not b) e)))
  where
    split : (all at rest : Bool) → all ≡ at → rest ≡ (all && not true) → all ≡ (rest || at)
    split all at rest e f = grind (arith, e, f)

    alone : (all rest : Bool) → rest ≡ (all && not false) → all ≡ (rest || false)
    alone all rest f = grind (arith, f)

-- ---- one in the place of another

-- the new one counts, wherever the list goes on
put_beside : (m : Object) (p : IndexKey × Oid) (xs : List Object)
    → (is_pair_of m.id (keys_of m) p || is_keyed (map (λ x. if same x.id m.id then m else x) xs) p) ≡ (is_keyed (filter (λ x. not (same x.id m.id)) xs) p || is_pair_of m.id (keys_of m) p)
put_beside m p [] = or_false (is_pair_of m.id (keys_of m) p)
put_beside m p (x ∷ xs) = by_test (same x.id m.id)
    (λ e. rw e (once (is_pair_of m.id (keys_of m) p) (is_keyed (map (λ x. if same x.id m.id then m else x) xs) p) (is_keyed (filter (λ x. not (same x.id m.id)) xs) p) (put_beside m p xs)))
    (λ e. rw e (over (is_pair_of m.id (keys_of m) p) (is_pair_of x.id (keys_of x) p) (is_keyed (map (λ x. if same x.id m.id then m else x) xs) p) (is_keyed (filter (λ x. not (same x.id m.id)) xs) p) (put_beside m p xs)))
  where
    once : (new put rest : Bool) → (new || put) ≡ (rest || new) → (new || (new || put)) ≡ (rest || new)
    once new put rest h = grind (arith, h)

    over : (new x put rest : Bool) → (new || put) ≡ (rest || new) → (new || (x || put)) ≡ ((x || rest) || new)
    over new x put rest h = grind (arith, h)

pub keyed_put : (m : Object) (p : IndexKey × Oid) (xs : List Object) → is_some (find (λ x. same x.id m.id) xs) ≡ true
    → is_keyed (map (λ x. if same x.id m.id then m else x) xs) p ≡ (is_keyed (filter (λ x. not (same x.id m.id)) xs) p || is_pair_of m.id (keys_of m) p)
keyed_put m p [] there = absurd (both_ways false refl there)
keyed_put m p (x ∷ xs) there = by_test (same x.id m.id)
    (λ e. rw e (put_beside m p xs))
    (λ e. let still : is_some (find (λ x. same x.id m.id) xs) ≡ true = rw e at there in
    rw e (over (is_pair_of x.id (keys_of x) p) (is_keyed (map (λ x. if same x.id m.id then m else x) xs) p) (is_keyed (filter (λ x. not (same x.id m.id)) xs) p) (is_pair_of m.id (keys_of m) p) (keyed_put m p xs still)))
  where
    over : (x put rest new : Bool) → put ≡ (rest || new) → (x || put) ≡ ((x || rest) || new)
    over x put rest new h = grind (arith, h)

-- ---- those that have a key

turned : (a b : Oid) → same a b ≡ same b a
turned a b = grind arith

-- the numbers beside a key are those of the objects that pass a test, where each object has the key exactly if it passes
pub members_of : (key : IndexKey) (test : Object → Bool) (m : Oid) → ((x : Object) → list_any (same_key key) (keys_of x) ≡ test x) → (xs : List Object)
    → is_keyed xs (key, m) ≡ list_any (same m) (map (λ x. x.id) (filter test xs))
members_of key test m fits [] = refl
members_of key test m fits (x ∷ xs) = (λ i. turned x.id m i && fits x i || members_of key test m fits xs i) ∙ by (test x)
  where
    by : (b : Bool) → (same m x.id && b || list_any (same m) (map (λ x. x.id) (filter test xs)))
        ≡ list_any (same m) (map (λ x. x.id) (if b then x ∷ filter test xs else filter test xs))
    by true = grind arith
    by false = grind arith

-- ---- one key less

-- a pair that is not of the first keys, nor of the next one
pub pair_less : (n : Oid) (ks : List IndexKey) (i : ℕ) (k : IndexKey) (p : IndexKey × Oid) (b : Bool) → i < length ks → k ≡ get_or ks i k
    → ((b && not (is_pair_of n (take i ks) p)) && not (same_pair p (k, n))) ≡ (b && not (is_pair_of n (take (i + 1) ks) p))
pair_less n ks i k p b lt is =
    let on : i + 1 ≡ suc i = omega arith in
    let more : take (i + 1) ks ≡ take i ks ++ k ∷ [] = ap (λ m. take m ks) on ∙ take-suc ks i k lt ∙ ap (λ x. take i ks ++ x ∷ []) (sym is) in
    let some : list_any (same_key p.0) (take (i + 1) ks) ≡ (list_any (same_key p.0) (take i ks) || (same_key p.0 k || false)) =
    ap (list_any (same_key p.0)) more ∙ list_any-append (same_key p.0) (take i ks) (k ∷ []) in
    ap (λ s. (b && not (is_pair_of n (take i ks) p)) && not (same_key p.0 k && s)) (turned p.1 n)
    ∙ bools b (same n p.1) (list_any (same_key p.0) (take i ks)) (same_key p.0 k)
    ∙ ap (λ a. b && not (same n p.1 && a)) (sym some)
  where
    bools : (b s a t : Bool) → ((b && not (s && a)) && not (t && s)) ≡ (b && not (s && (a || (t || false))))
    bools b s a t = grind arith
