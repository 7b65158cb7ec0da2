-- A list with one more item in its place: what is found in it, and what stands apart.
use Rattle.std.specs.Prelude.{◌≡◌, ℕ, Bool, true, false, List, [], ◌∷◌, ◌++◌, filter, fold, find, All, Option, Some, None, bytes_eq}
use Rattle.core.specs.declared.cmp.Ordering.{Ordering}
use Rattle.core.specs.declared.cmp.Ordering.TheVariants.{Less, Equal, Greater}
use Rattle.core.specs.Ordering.{nat_cmp, is_lt, ordering_reverse}
use Rattle.core.specs.Cmp.Lexicographic.{slice_cmp, nat_list_cmp_total}
use Rattle.std.proofs.Common.{refl, sym, ap, ◌∙◌}
use Rattle.std.proofs.lemmas.Bool.{both_ways}
use Rattle.std.proofs.lemmas.List.Elements.{All-nil, All-cons, All-head, All-tail, All-append, All-filter, All-weaker}
use Rattle.std.proofs.lemmas.Map.Lookups.{exact_bytes}
use Rattle.cm_types.specs.declared.property.PropDef.{PropDef}
use Rattle.cm_types.specs.Changes.{is_before, placed, sorted_props}
use Rattle.cmis_spec.specs.Well.{Apart}
use Rattle.cmis_laws.proofs.Lists.{by_test, find_yes, find_no, all_zip}
use Rattle.cmis_laws.proofs.Left.{all_kept, apart_filter, apart_append, find_filtered, none_filtered}
use Rattle.cmis_laws.proofs.Kept.{bytes_true, bytes_same, every}

-- ---- byte order

pub before_less : (a b : List ℕ) → is_before a b ≡ true → slice_cmp nat_cmp a b ≡ Less
before_less a b h = by (slice_cmp nat_cmp a b) h
  where
    by : (o : Ordering) → is_lt o ≡ true → o ≡ Less
    by Less h = refl
    by Equal h = absurd (both_ways false refl h)
    by Greater h = absurd (both_ways false refl h)

reversed : (a b : List ℕ) (o : Ordering) → slice_cmp nat_cmp a b ≡ o → is_before b a ≡ is_lt (ordering_reverse o)
reversed a b o e = ap is_lt (nat_list_cmp_total.antisymm b a ∙ ap ordering_reverse e)

before_turned : (a b : List ℕ) → is_before a b ≡ true → is_before b a ≡ false
before_turned a b h = reversed a b Less (before_less a b h)

pub not_before_itself : (a : List ℕ) → is_before a a ≡ false
not_before_itself a = by_test (is_before a a) (before_turned a a) (λ e. e)

not_either : (a b : List ℕ) → bytes_eq a b ≡ false → is_before a b ≡ false → is_before b a ≡ true
not_either a b n h = by (slice_cmp nat_cmp a b) refl
  where
    by : (o : Ordering) → slice_cmp nat_cmp a b ≡ o → is_before b a ≡ true
    by Less e = absurd (both_ways true (sym (ap is_lt e) ∙ h) refl)
    by Equal e = absurd (both_ways (bytes_eq a b) n (bytes_same a b (exact_bytes a b e)))
    by Greater e = reversed a b Greater e

-- ---- what is found

find_behind : {A : Type 0} (p : A → Bool) (xs ys : List A) → find p xs ≡ None → find p (xs ++ ys) ≡ find p ys
find_behind p [] ys h = refl
find_behind p (x ∷ xs) ys h = by_test (p x)
    (λ e. absurd (both_ways true (ap (λ o. elim o [ None ↦ false | Some z ↦ true ]) (sym (find_yes p x xs e) ∙ h)) refl))
    (λ e. find_no p x (xs ++ ys) e ∙ find_behind p xs ys (sym (find_no p x xs e) ∙ h))

find_before : {A : Type 0} (p : A → Bool) (xs ys : List A) (z : A) → find p xs ≡ Some z → find p (xs ++ ys) ≡ Some z
find_before p [] ys z h = absurd (both_ways false refl (ap (λ o. elim o [ None ↦ false | Some y ↦ true ]) h))
find_before p (x ∷ xs) ys z h = by_test (p x)
    (λ e. find_yes p x (xs ++ ys) e ∙ (sym (find_yes p x xs e) ∙ h))
    (λ e. find_no p x (xs ++ ys) e ∙ find_before p xs ys z (sym (find_no p x xs e) ∙ h))

module _ {A : Type 0} (name : A → List ℕ) (x : A) where
  abbrev low : List A → List A
  low xs = filter (λ y. is_before (name y) (name x)) xs

  abbrev high : List A → List A
  high xs = filter (λ y. is_before (name x) (name y)) xs

  -- the item itself
  pub found_placed : (k : List ℕ) (xs : List A) → bytes_eq (name x) k ≡ true → find (λ y. bytes_eq (name y) k) (placed name x xs) ≡ Some x
  found_placed k xs e =
      find_behind (λ y. bytes_eq (name y) k) (low xs) (x ∷ high xs)
      (none_filtered (λ y. bytes_eq (name y) k) (λ y. is_before (name y) (name x)) xs
      (λ y h. ap (λ n. is_before n (name x)) (bytes_true (name y) k h ∙ sym (bytes_true (name x) k e)) ∙ not_before_itself (name x)))
      ∙ find_yes (λ y. bytes_eq (name y) k) x (high xs) e

  -- each other one as before
  pub found_beside : (k : List ℕ) (xs : List A) → bytes_eq (name x) k ≡ false → find (λ y. bytes_eq (name y) k) (placed name x xs) ≡ find (λ y. bytes_eq (name y) k) xs
  found_beside k xs n = by_test (is_before k (name x))
      (λ e. by (find (λ y. bytes_eq (name y) k) xs) refl e)
      (λ e.
      find_behind (λ y. bytes_eq (name y) k) (low xs) (x ∷ high xs)
      (none_filtered (λ y. bytes_eq (name y) k) (λ y. is_before (name y) (name x)) xs (λ y h. ap (λ m. is_before m (name x)) (bytes_true (name y) k h) ∙ e))
      ∙ (find_no (λ y. bytes_eq (name y) k) x (high xs) n
      ∙ find_filtered (λ y. bytes_eq (name y) k) (λ y. is_before (name x) (name y)) xs
      (λ y h. ap (is_before (name x)) (bytes_true (name y) k h) ∙ not_either k (name x) (turned n) e)))
    where
      turned : bytes_eq (name x) k ≡ false → bytes_eq k (name x) ≡ false
      turned h = by_test (bytes_eq k (name x)) (λ t. absurd (both_ways (bytes_eq (name x) k) h (bytes_same (name x) k (sym (bytes_true k (name x) t))))) (λ t. t)

      in_low : is_before k (name x) ≡ true → find (λ y. bytes_eq (name y) k) (low xs) ≡ find (λ y. bytes_eq (name y) k) xs
      in_low e = find_filtered (λ y. bytes_eq (name y) k) (λ y. is_before (name y) (name x)) xs (λ y h. ap (λ m. is_before m (name x)) (bytes_true (name y) k h) ∙ e)

      by : (o : Option A) → find (λ y. bytes_eq (name y) k) xs ≡ o → is_before k (name x) ≡ true
          → find (λ y. bytes_eq (name y) k) (placed name x xs) ≡ find (λ y. bytes_eq (name y) k) xs
      by (Some z) h e = find_before (λ y. bytes_eq (name y) k) (low xs) (x ∷ high xs) z (in_low e ∙ h) ∙ sym h
      by None h e =
          find_behind (λ y. bytes_eq (name y) k) (low xs) (x ∷ high xs) (in_low e ∙ h)
          ∙ (find_no (λ y. bytes_eq (name y) k) x (high xs) n
          ∙ (none_filtered (λ y. bytes_eq (name y) k) (λ y. is_before (name x) (name y)) xs (λ y t. ap (is_before (name x)) (bytes_true (name y) k t) ∙ before_turned k (name x) e)
          ∙ sym h))

  -- ---- what stands apart

  -- two that the item parts stand so to each other the other way round
  abbrev Crosses : (A → A → Type 0) → Type 0
  Crosses R = (a b : A) → is_before (name a) (name x) ≡ true → is_before (name x) (name b) ≡ true → R b a → R a b

  crossed : (R : A → A → Type 0) (xs : List A) → Crosses R → Apart R xs → All (λ a. All (R a) (high xs)) (low xs)
  crossed R [] c apart = All-nil (λ a. All (R a) [])
  crossed R (y ∷ ys) c apart = by_test (is_before (name y) (name x))
      (λ e. rw (e, before_turned (name y) (name x) e)
      (All-cons (λ a. All (R a) (high ys)) y (low ys) (All-filter (λ b. is_before (name x) (name b)) (R y) ys apart.0) (crossed R ys c apart.1)))
      (λ e. by_test (is_before (name x) (name y))
      (λ d. rw (e, d)
      (all_zip (λ a. All (R a) (high ys)) (λ a. R a y) (λ a. All (R a) (y ∷ high ys)) (low ys) (λ a f h. All-cons (R a) y (high ys) h f) (crossed R ys c apart.1)
      (all_kept (λ a. is_before (name a) (name x)) (λ a. R a y) ys (All-weaker (R y) (λ a. is_before (name a) (name x) ≡ true → R a y) (λ a h b. c a y b d h) ys apart.0))))
      (λ d. rw (e, d) (crossed R ys c apart.1)))

  -- the item stands so to those behind it, and those before it to the item
  abbrev Fits : (A → A → Type 0) → A → Type 0
  Fits R y = (is_before (name y) (name x) ≡ true → R y x) × (is_before (name x) (name y) ≡ true → R x y)

  pub apart_placed : (R : A → A → Type 0) (xs : List A) → Crosses R → All (Fits R) xs → Apart R xs → Apart R (placed name x xs)
  apart_placed R xs c fits apart =
      apart_append R (low xs) (x ∷ high xs) (apart_filter R (λ y. is_before (name y) (name x)) xs apart) (
        all_kept (λ y. is_before (name x) (name y)) (R x) xs (All-weaker (Fits R) (λ y. is_before (name x) (name y) ≡ true → R x y) (λ y f. f.1) xs fits),
        apart_filter R (λ y. is_before (name x) (name y)) xs apart,
      )
      (all_zip (λ a. R a x) (λ a. All (R a) (high xs)) (λ a. All (R a) (x ∷ high xs)) (low xs) (λ a h f. All-cons (R a) x (high xs) h f)
      (all_kept (λ y. is_before (name y) (name x)) (λ a. R a x) xs (All-weaker (Fits R) (λ y. is_before (name y) (name x) ≡ true → R y x) (λ y f. f.0) xs fits))
      (crossed R xs c apart))

  -- what stood in byte order does so
  pub rising_placed : (xs : List A) → Apart (λ a b. slice_cmp nat_cmp (name a) (name b) ≡ Less) xs → Apart (λ a b. slice_cmp nat_cmp (name a) (name b) ≡ Less) (placed name x xs)
  rising_placed xs apart = apart_placed (λ a b. slice_cmp nat_cmp (name a) (name b) ≡ Less) xs
      (λ a b l m h. nat_list_cmp_total.trans (name a) (name x) (name b) (before_less (name a) (name x) l) (before_less (name x) (name b) m))
      (every (Fits (λ a b. slice_cmp nat_cmp (name a) (name b) ≡ Less)) xs (λ y. (before_less (name y) (name x), before_less (name x) (name y)))) apart

-- definitions that are put in their order stand in it
pub sorted_rise : (ds : List PropDef) → Apart (λ d e. slice_cmp nat_cmp d.id e.id ≡ Less) (sorted_props ds)
sorted_rise ds = onto [] ds tt
  where
    onto : (es ds : List PropDef) → Apart (λ d e. slice_cmp nat_cmp d.id e.id ≡ Less) es → Apart (λ d e. slice_cmp nat_cmp d.id e.id ≡ Less) (fold (λ all d. placed (λ e. e.id) d all) es ds)
    onto es [] apart = apart
    onto es (d ∷ ds) apart = onto (placed (λ e. e.id) d es) ds (rising_placed (λ e. e.id) d es apart)

-- ---- what holds of each

pub placed_all : {A : Type 0} (P : A → Type 0) (name : A → List ℕ) (x : A) (xs : List A) → P x → All P xs → All P (placed name x xs)
placed_all P name x xs h all = All-append P (filter (λ y. is_before (name y) (name x)) xs) (x ∷ filter (λ y. is_before (name x) (name y)) xs)
    (All-filter (λ y. is_before (name y) (name x)) P xs all) (All-cons P x (filter (λ y. is_before (name x) (name y)) xs) h (All-filter (λ y. is_before (name x) (name y)) P xs all))

-- of those that are put in their order one after the other
pub ordered_all : {A : Type 0} (P : A → Type 0) (name : A → List ℕ) (ys xs : List A) → All P ys → All P xs → All P (fold (λ all x. placed name x all) ys xs)
ordered_all P name ys [] before all = before
ordered_all P name ys (x ∷ xs) before all = ordered_all P name (placed name x ys) xs (placed_all P name x ys (All-head P x xs all) before) (All-tail P x xs all)

pub sorted_all : (P : PropDef → Type 0) (ds : List PropDef) → All P ds → All P (sorted_props ds)
sorted_all P ds all = ordered_all P (λ e. e.id) [] ds (All-nil P) all
