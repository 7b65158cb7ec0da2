-- Sets of numbers as maps, and their keys.
use Rattle.std.proofs.Common.{◌≡◌, ℕ, ◌<◌, ◌≤◌, ◌+◌, ◌==◌, ◌&&◌, ◌||◌, Bool, true, false, List, [], ◌∷◌, ◌++◌, All, map, length, take, get_or, cond, Option, Some, is_some, T, refl, ap, sym, ◌∙◌, subst, arith}
use Rattle.std.specs.List.{list_any}
use Rattle.core.specs.Ordering.{nat_cmp, is_lt}
use Rattle.core.specs.Cmp.{nat_cmp_total, unsigned_tied}
use Rattle.core.specs.FinMap.Entries.{find, put, find-put, below_all, is_sorted}
use Rattle.std.proofs.lemmas.List.{take_more}
use Rattle.std.proofs.lemmas.List.Elements.{All-nil, All-cons, All-head, All-tail, All-append, All-weaker}
use Rattle.cm_base.specs.declared.number.Oid.{Oid}
use Rattle.cmis_spec.specs.Repository.{same}
use Rattle.cmis_laws.proofs.Lists.{by_test}
use Rattle.cm_map.specs.Keyed.{Rises}

pub flip : (a b : ℕ) → (b == a) ≡ (a == b)
flip a b = grind arith

-- a number more
pub more_numbers : (n k : ℕ) (es : List (ℕ × Unit {0})) → is_some (find nat_cmp n (put nat_cmp k tt es)) ≡ ((k == n) || is_some (find nat_cmp n es))
more_numbers n k es = ap is_some (find-put nat_cmp nat_cmp_total n k tt es ∙ ap (λ b. cond b (Some tt) (find nat_cmp n es)) (unsigned_tied n k ∙ flip k n)) ∙ by (k == n) (find nat_cmp n es)
  where
    by : (b : Bool) (o : Option (Unit {0})) → is_some (cond b (Some tt) o) ≡ (b || is_some o)
    by true o = refl
    by false o = refl

pub any_last : {A : Type 0} (t : A → Bool) (xs : List A) (x : A) → list_any t (xs ++ x ∷ []) ≡ (t x || list_any t xs)
any_last t [] x = refl
any_last t (y ∷ ys) x = ap (λ b. t y || b) (any_last t ys x) ∙ turned (t y) (t x) (list_any t ys)
  where
    turned : (a b c : Bool) → (a || (b || c)) ≡ (b || (a || c))
    turned a b c = grind arith

-- ---- the numbers of a map, in order

pub rising_keys : {V : Type 0} (es : List (ℕ × V)) → T (is_sorted nat_cmp es) → Rises (λ (n : Oid). n.0) (map (λ e. record { 0 = e.0 }) es)
rising_keys [] h = tt
rising_keys (e ∷ es) h = (above e.0 es (first (below_all nat_cmp e.0 es) (is_sorted nat_cmp es) h), rising_keys es (second (below_all nat_cmp e.0 es) (is_sorted nat_cmp es) h))
  where
    first : (a b : Bool) → T (a && b) → T a
    first true b p = tt
    first false b p = p

    second : (a b : Bool) → T (a && b) → T b
    second true b p = p
    second false b p = absurd p

    less : (a b : ℕ) → T (is_lt (nat_cmp a b)) → a < b
    less a b h = grind (arith, h)

    above : {V : Type 0} (n : ℕ) (es : List (ℕ × V)) → T (below_all nat_cmp n es) → All (λ (m : Oid). n < m.0) (map (λ e. record { 0 = e.0 }) es)
    above n [] h = All-nil (λ (m : Oid). n < m.0)
    above n (e ∷ es) h = All-cons (λ (m : Oid). n < m.0) (record { 0 = e.0 }) (map (λ e. record { 0 = e.0 }) es) (less n e.0 (first (is_lt (nat_cmp n e.0)) (below_all nat_cmp n es) h)) (above n es (second (is_lt (nat_cmp n e.0)) (below_all nat_cmp n es) h))

pub member_keys : {V : Type 0} (es : List (ℕ × V)) (n : Oid) → list_any (same n) (map (λ e. record { 0 = e.0 }) es) ≡ is_some (find nat_cmp n.0 es)
member_keys [] n = refl
member_keys (e ∷ es) n = by_test (n.0 == e.0)
    (λ t. ap (λ b. b || list_any (same n) (map (λ e. record { 0 = e.0 }) es)) t ∙ sym (ap (λ b. is_some (cond b (Some e.1) (find nat_cmp n.0 es))) (unsigned_tied n.0 e.0 ∙ t)))
    (λ t. ap (λ b. b || list_any (same n) (map (λ e. record { 0 = e.0 }) es)) t
    ∙ (member_keys es n ∙ sym (ap (λ b. is_some (cond b (Some e.1) (find nat_cmp n.0 es))) (unsigned_tied n.0 e.0 ∙ t))))

pub any_values : {A : Type 0} (p : A → Bool) (es : List (ℕ × A)) → list_any (λ e. p e.1) es ≡ list_any p (map (λ e. e.1) es)
any_values p [] = refl
any_values p (e ∷ es) = ap (λ b. p e.1 || b) (any_values p es)

-- ---- a greater number at the end

abbrev below : ℕ → Oid → Type 0
below n m = m.0 < n

all_last : (P : Oid → Type 0) (xs : List Oid) (x : Oid) → All P xs → P x → All P (xs ++ x ∷ [])
all_last P xs x a p = All-append P xs (x ∷ []) a (All-cons P x [] p (All-nil P))

rising_last : (xs : List Oid) (x : Oid) → Rises (λ n. n.0) xs → All (below x.0) xs → Rises (λ n. n.0) (xs ++ x ∷ [])
rising_last [] x r a = (All-nil (λ (m : Oid). x.0 < m.0), tt)
rising_last (y ∷ ys) x r a = (all_last (λ m. y.0 < m.0) ys x r.0 (All-head (below x.0) y ys a), rising_last ys x r.1 (All-tail (below x.0) y ys a))

pub rising_more : (xs : List Oid) (i : ℕ) (d : Oid) (least : ℕ) → i < length xs → Rises (λ n. n.0) (take i xs) → All (λ n. n.0 < least) (take i xs) → least ≤ (get_or xs i d).0
    → Rises (λ n. n.0) (take (i + 1) xs) × All (λ n. n.0 < (get_or xs i d).0 + 1) (take (i + 1) xs)
rising_more xs i d least l r a h =
    let x : Oid = get_or xs i d in
    let old : List Oid = take i xs in
    subst (λ ns. Rises (λ n. n.0) ns × All (below (x.0 + 1)) ns) (sym (take_more xs i d l)) (
      rising_last old x r (All-weaker (below least) (below x.0) (λ m k. omega (arith, k, h)) old a),
      all_last (below (x.0 + 1)) old x (All-weaker (below least) (below (x.0 + 1)) (λ m k. omega (arith, k, h)) old a) (omega arith),
    )
