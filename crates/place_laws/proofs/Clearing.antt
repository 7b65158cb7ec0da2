-- Places that are cleared, and the lists of the values that are left.
use Rattle.std.proofs.Common.{◌≡◌, ℕ, suc, ◌+◌, ◌<◌, ◌≤◌, ◌==◌, ◌||◌, ◌&&◌, Bool, true, false, not, cond, List, [], ◌∷◌, map, filter, filter_map, length, take, get_or, nat_lt, if◌then◌else◌, Option, None, Some, is_some, option_map, option_and_then, unwrap_or, sym, ap, subst, refl, ◌∙◌, arith, T}
use Rattle.std.specs.List.{list_any}
use Rattle.core.specs.Ordering.{nat_cmp, eq_by_cmp}
use Rattle.core.specs.Cmp.{unsigned_tied}
use Rattle.core.specs.declared.cmp.Ordering.{Ordering}
use Rattle.core.specs.FinMap.Entries.{put, find, is_sorted, below_all}
use Rattle.std.proofs.lemmas.Bool.{eqb-true}
use Rattle.std.proofs.lemmas.List.{take_more}
use Rattle.std.proofs.lemmas.List.Folds.{list_any-append}
use Rattle.place_laws.specs.Places.{placed, but}
use Rattle.place_laws.proofs.Placing.{by_test, find-put_at, below_none, changed_is, values_changed}

-- where nothing is in a place, nothing goes
pub nothing_there : {X : Type 0} (n : ℕ) (at : ℕ → Option X) → at n ≡ None → (p : ℕ) → at p ≡ cond (p == n) None (at p)
nothing_there n at none p = by_test (p == n)
    (λ t. rw t (subst (λ m. at m ≡ None) (sym (eqb-true p n t)) none))
    (λ t. rw t refl)

or_false : (b : Bool) → (b || false) ≡ b
or_false true = refl
or_false false = refl

-- one place more is cleared
pub cleared_more : {X : Type 0} (was now then_at : ℕ → Option X) (places : List ℕ) (i d : ℕ) → i < length places
    → ((p : ℕ) → now p ≡ cond (list_any (λ q. p == q) (take i places)) None (was p))
    → ((p : ℕ) → then_at p ≡ cond (p == get_or places i d) None (now p))
    → (p : ℕ) → then_at p ≡ cond (list_any (λ q. p == q) (take (i + 1) places)) None (was p)
cleared_more was now then_at places i d lt before found p =
    found p ∙ (ap (cond (p == get_or places i d) None) (before p)
    ∙ (both (list_any (λ q. p == q) (take i places)) (p == get_or places i d) (was p)
    ∙ ap (λ b. cond b None (was p)) (sym (ap (list_any (λ q. p == q)) (take_more places i d lt)
    ∙ (list_any-append (λ q. p == q) (take i places) (get_or places i d ∷ []) ∙ ap (λ b. list_any (λ q. p == q) (take i places) || b) (or_false (p == get_or places i d)))))))
  where
    both : {X : Type 0} (a b : Bool) (o : Option X) → cond b None (cond a None o) ≡ cond (a || b) None o
    both true true o = refl
    both true false o = refl
    both false b o = refl

-- the places stay below the next one
pub below_put : {X : Type 0} (n : ℕ) (e : X) (es fs : List (ℕ × X)) → ((p : ℕ) → n ≤ p → find nat_cmp p es ≡ None) → fs ≡ put nat_cmp n e es → (p : ℕ) → n + 1 ≤ p → find nat_cmp p fs ≡ None
below_put n e es fs below at p le =
    let other : (p == n) ≡ false = by_test (p == n) (λ t. let k : p ≡ n = eqb-true p n t in absurd (omega (arith, k, le))) (λ t. t) in
    ap (find nat_cmp p) at ∙ (find-put_at p n e es ∙ (ap (λ b. cond b (Some e) (find nat_cmp p es)) other ∙ below p (omega (arith, le))))

-- ---- what stands in a place

pub has_place : {X : Type 0} (p : ℕ) (b : List (ℕ × X)) → list_any (λ q. p == q) (map (λ e. e.0) b) ≡ is_some (find nat_cmp p b)
has_place p [] = refl
has_place p (e ∷ b) = by_test (eq_by_cmp nat_cmp p e.0)
    (λ t. rw (t, sym (unsigned_tied p e.0) ∙ t) refl)
    (λ t. rw (t, sym (unsigned_tied p e.0) ∙ t) (has_place p b))

pub has_place_where : {X : Type 0} (t : X → Bool) (p : ℕ) (b : List (ℕ × X)) → T (is_sorted nat_cmp b)
    → list_any (λ q. p == q) (map (λ e. e.0) (filter (λ e. t e.1) b)) ≡ unwrap_or (option_map t (find nat_cmp p b)) false
has_place_where t p [] h = refl
has_place_where {X} t p (e ∷ b) h =
    let more : list_any (λ q. p == q) (map (λ e. e.0) (filter (λ e. t e.1) b)) ≡ unwrap_or (option_map t (find nat_cmp p b)) false = has_place_where t p b (second (below_all nat_cmp e.0 b) (is_sorted nat_cmp b) h) in
    by_test (eq_by_cmp nat_cmp p e.0)
    (λ k. let at : p ≡ e.0 = eqb-true p e.0 (sym (unsigned_tied p e.0) ∙ k) in
    let gone : find nat_cmp p b ≡ None = subst (λ m. find nat_cmp m b ≡ None) (sym at) (below_none e.0 b (first (below_all nat_cmp e.0 b) (is_sorted nat_cmp b) h)) in
    by_test (t e.1)
    (λ y. rw (k, y, sym (unsigned_tied p e.0) ∙ k) refl)
    (λ n. rw (k, n) (more ∙ ap (λ o. unwrap_or (option_map t o) false) gone)))
    (λ k. by_test (t e.1)
    (λ y. rw (k, y, sym (unsigned_tied p e.0) ∙ k) more)
    (λ n. rw (k, n) more))
  where
    first : (a b : Bool) → T (a && b) → T a
    first true b p = tt
    first false b p = p

    second : (a b : Bool) → T (a && b) → T b
    second true b p = p
    second false b p = absurd p

-- ---- lists

-- the list of the entries after a change
pub list_changed : {E X : Type 0} (f : E → Option X) (es : List (ℕ × E)) (fs : List (ℕ × X)) → T (is_sorted nat_cmp es) → T (is_sorted nat_cmp fs)
    → ((p : ℕ) → find nat_cmp p fs ≡ option_and_then f (find nat_cmp p es)) → map (λ e. e.1) fs ≡ filter_map f (map (λ e. e.1) es)
list_changed f es fs sorted rising found = ap (map (λ e. e.1)) (changed_is f es fs sorted rising found) ∙ values_changed f es

-- what passes the test is left out
pub left_out : {E : Type 0} (t : E → Bool) (xs : List E) → filter_map (but t) xs ≡ filter (λ x. not (t x)) xs
left_out t [] = refl
left_out t (x ∷ xs) = by_test (t x)
    (λ e. rw e (left_out t xs))
    (λ e. rw e (ap (λ l. x ∷ l) (left_out t xs)))

-- all values that have a key
pub all_values : {K E X : Type 0} (R : K → K → Ordering) (key : E → K) (value : E → X) (k : K) (t : E → Bool) → ((e : E) → eq_by_cmp R k (key e) ≡ t e) → (es : List (ℕ × E))
    → map (λ d. d.1) (placed R key value k es) ≡ map value (filter t (map (λ e. e.1) es))
all_values R key value k t alike [] = refl
all_values R key value k t alike (e ∷ es) = by_test (t e.1)
    (λ h. rw (alike e.1 ∙ h, h) (ap (λ l. value e.1 ∷ l) (all_values R key value k t alike es)))
    (λ h. rw (alike e.1 ∙ h, h) (all_values R key value k t alike es))

-- a key has an entry
pub any_value : {K E X : Type 0} (R : K → K → Ordering) (key : E → K) (value : E → X) (k : K) (t : E → Bool) → ((e : E) → eq_by_cmp R k (key e) ≡ t e) → (es : List (ℕ × E))
    → (nat_lt 0 (length (placed R key value k es))) ≡ list_any t (map (λ e. e.1) es)
any_value R key value k t alike [] = refl
any_value R key value k t alike (e ∷ es) = by_test (t e.1)
    (λ h. rw (alike e.1 ∙ h, h) (some (length (placed R key value k es))))
    (λ h. rw (alike e.1 ∙ h, h) (any_value R key value k t alike es))
  where
    some : (n : ℕ) → nat_lt 0 (suc n) ≡ true
    some n = grind arith

-- what is left where the entries that pass a test go
pub list_left : {E : Type 0} (t : E → Bool) (es fs : List (ℕ × E)) → T (is_sorted nat_cmp es) → T (is_sorted nat_cmp fs)
    → ((p : ℕ) → find nat_cmp p fs ≡ option_and_then (but t) (find nat_cmp p es)) → map (λ e. e.1) fs ≡ filter (λ x. not (t x)) (map (λ e. e.1) es)
list_left t es fs sorted rising found = list_changed (but t) es fs sorted rising found ∙ left_out t (map (λ e. e.1) es)

pub below_left : {E : Type 0} (t : E → Bool) (n : ℕ) (was now : ℕ → Option E) → ((p : ℕ) → n ≤ p → was p ≡ None) → ((p : ℕ) → now p ≡ option_and_then (but t) (was p)) → (p : ℕ) → n ≤ p → now p ≡ None
below_left t n was now below found p le = found p ∙ ap (option_and_then (but t)) (below p le)
