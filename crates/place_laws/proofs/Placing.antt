-- Indexes by place: look-ups, and what changes make of them.
use Rattle.std.proofs.Common.{◌≡◌, ℕ, option_map, option_and_then, ◌<◌, ◌≤◌, ◌==◌, ◌&&◌, ◌||◌, Bool, true, false, not, cond, List, [], ◌∷◌, ◌++◌, map, filter, filter_map, nat_lt, if◌then◌else◌, Option, None, Some, is_some, unwrap_or, sym, ap, refl, ◌∙◌, subst, arith, T, Ordering, Less, Equal, Greater, is_eq, ◌⊎◌, inl, inr}
use Rattle.std.specs.List.{list_any, find as find_by}
use Rattle.core.specs.List.{AllByRecursion, cons_option}
use Rattle.core.specs.Ordering.{nat_cmp, is_lt, eq_by_cmp}
use Rattle.core.specs.Cmp.{nat_cmp_is, nat_cmp_total, unsigned_tied}
use Rattle.core.specs.FinMap.Entries.{put, find, is_sorted, below_all, find-put, find-where_key, same_entries, by_order}
use Rattle.std.proofs.Math.Bool.{and-true}
use Rattle.std.proofs.lemmas.Bool.{both_ways, eqb-true, ltb-true, ltb-false, and_right}
use Rattle.std.proofs.lemmas.Map.Lookups.{exact_unsigned}
use Rattle.cm_map.specs.Parts.{without_key}
use mathlib.Core.List.{map-append}
use Rattle.cm_map.specs.Buckets.{find_in, bucket_of}
use Rattle.place_laws.specs.Places.{placed, value_at}

pub by_test : {A : Type 0} (b : Bool) → (b ≡ true → A) → (b ≡ false → A) → A
by_test true f g = f refl
by_test false f g = g refl

both : (a b : Bool) → T a → T b → T (a && b)
both true b p q = q
both false b p q = absurd p

first : (a b : Bool) → T (a && b) → T a
first true b p = tt
first false b p = p

second : (a b : Bool) → T (a && b) → T b
second true b p = p
second false b p = absurd p

-- what a place has in the map under a key
pub find_under : {K X : Type 0} (R : K → K → Ordering) (buckets : List (K × List (ℕ × X))) (q : K) (p : ℕ) → find nat_cmp p (bucket_of R buckets q) ≡ find_in R nat_cmp buckets q p
find_under R buckets q p = elim (find R q buckets) as (λ o. find nat_cmp p (unwrap_or o []) ≡ option_and_then (find nat_cmp p) o) [ None ↦ refl | Some m ↦ refl ]

put_last : {X : Type 0} (n : ℕ) (x : X) (es : List (ℕ × X)) → AllByRecursion (λ e. e.0 < n) es → put nat_cmp n x es ≡ es ++ (n, x) ∷ []
put_last n x [] h = refl
put_last n x (e ∷ es) h =
    ap (λ r. by_order r ((n, x) ∷ e ∷ es) ((e.0, x) ∷ es) (e ∷ put nat_cmp n x es)) (sym (nat_cmp_is n e.0 Greater h.0)) ∙ ap (λ l. e ∷ l) (put_last n x es h.1)

pub put_entry : {X : Type 0} (n : ℕ) (x : X) (es : List (ℕ × X)) → AllByRecursion (λ e. e.0 < n) es → map (λ e. e.1) (put nat_cmp n x es) ≡ map (λ e. e.1) es ++ x ∷ []
put_entry n x es h = ap (map (λ e. e.1)) (put_last n x es h) ∙ map-append (λ (e : ℕ × _). e.1) es ((n, x) ∷ [])

-- ---- what stands in a place

ties : (p q : ℕ) → eq_by_cmp nat_cmp p q ≡ (p == q)
ties p q = unsigned_tied p q

pub tied_here : (p : ℕ) → eq_by_cmp nat_cmp p p ≡ true
tied_here p = ties p p ∙ grind arith

pub find-put_at : {X : Type 0} (p n : ℕ) (x : X) (es : List (ℕ × X)) → find nat_cmp p (put nat_cmp n x es) ≡ cond (p == n) (Some x) (find nat_cmp p es)
find-put_at p n x es = find-put nat_cmp nat_cmp_total p n x es ∙ ap (λ b. cond b (Some x) (find nat_cmp p es)) (ties p n)

pub find-without_at : {X : Type 0} (p n : ℕ) (es : List (ℕ × X)) → find nat_cmp p (without_key nat_cmp n es) ≡ cond (p == n) None (find nat_cmp p es)
find-without_at p n es =
    find-where_key nat_cmp (λ x. not (eq_by_cmp nat_cmp n x)) p (λ x e. ap (λ y. not (eq_by_cmp nat_cmp n y)) (sym (exact_unsigned p x e))) es
    ∙ (ap (λ b. cond (not b) (find nat_cmp p es) None) (ties n p ∙ flip p n) ∙ turned (find nat_cmp p es) (p == n))
  where
    flip : (a b : ℕ) → (b == a) ≡ (a == b)
    flip a b = grind arith

    turned : {X : Type 0} (o : Option X) (b : Bool) → cond (not b) o None ≡ cond b None o
    turned o true = refl
    turned o false = refl

-- an entry whose place is below those of a list is not found in it
pub below_none : {X : Type 0} (p : ℕ) (es : List (ℕ × X)) → T (below_all nat_cmp p es) → find nat_cmp p es ≡ None
below_none p [] h = refl
below_none p (e ∷ es) h = ap (λ r. cond (is_eq r) (Some e.1) (find nat_cmp p es)) (less (nat_cmp p e.0) (below_all nat_cmp p es) h) ∙ below_none p es (rest (nat_cmp p e.0) (below_all nat_cmp p es) h)
  where
    less : (r : Ordering) (b : Bool) → T (is_lt r && b) → r ≡ Less
    less Less b h = refl
    less Equal b h = absurd h
    less Greater b h = absurd h

    rest : (r : Ordering) (b : Bool) → T (is_lt r && b) → T b
    rest Less b h = h
    rest Equal b h = absurd h
    rest Greater b h = absurd h

-- places from the next one on are free: all stand below it
pub all_below : {X : Type 0} (n : ℕ) (es : List (ℕ × X)) → ((p : ℕ) → n ≤ p → find nat_cmp p es ≡ None) → AllByRecursion (λ e. e.0 < n) es
all_below n [] h = tt
all_below n (e ∷ es) h =
    let lt : e.0 < n = by_test (nat_lt e.0 n)
    (λ l. ltb-true e.0 n l)
    (λ l. absurd (some_none (sym (ap (λ b. cond b (Some e.1) (find nat_cmp e.0 es)) (tied_here e.0)) ∙ h e.0 (ltb-false e.0 n l)))) in
    (lt, all_below n es (λ p le. let o : eq_by_cmp nat_cmp p e.0 ≡ false = ties p e.0 ∙ apart p e.0 n le lt in sym (ap (λ b. cond b (Some e.1) (find nat_cmp p es)) o) ∙ h p le))
  where
    some_none : {X : Type 0} {x : X} → Some x ≡ None → ⊥
    some_none e = both_ways false refl (sym (ap is_some e))

    apart : (p m n : ℕ) → n ≤ p → m < n → (p == m) ≡ false
    apart p m n le lt = by_test (p == m) (λ e. let k : p ≡ m = eqb-true p m e in absurd (omega (arith, k, le, lt))) (λ e. e)

-- ---- the values under a key

module _ {E X : Type 0} (f : E → Option X) where
  -- what f makes of the entries, in their places
  abbrev pub changed : List (ℕ × E) → List (ℕ × X)
  changed es = filter_map (λ e. option_map (λ x. (e.0, x)) (f e.1)) es

  below_changed : (p : ℕ) (es : List (ℕ × E)) → T (below_all nat_cmp p es) → T (below_all nat_cmp p (changed es))
  below_changed p [] h = tt
  below_changed p (e ∷ es) h =
      let more : T (below_all nat_cmp p (changed es)) = below_changed p es (second _ _ h) in
      elim (f e.1) as (λ o. T (below_all nat_cmp p (cons_option (option_map (λ x. (e.0, x)) o) (changed es)))) [
        | None ↦ more
        | Some x ↦ both _ _ (first _ _ h) more
      ]

  sorted_changed : (es : List (ℕ × E)) → T (is_sorted nat_cmp es) → T (is_sorted nat_cmp (changed es))
  sorted_changed [] h = tt
  sorted_changed (e ∷ es) h =
      let more : T (is_sorted nat_cmp (changed es)) = sorted_changed es (second _ _ h) in
      elim (f e.1) as (λ o. T (is_sorted nat_cmp (cons_option (option_map (λ x. (e.0, x)) o) (changed es)))) [
        | None ↦ more
        | Some x ↦ both _ _ (below_changed e.0 es (first _ _ h)) more
      ]

  find_changed : (p : ℕ) (es : List (ℕ × E)) → T (is_sorted nat_cmp es) → find nat_cmp p (changed es) ≡ option_and_then f (find nat_cmp p es)
  find_changed p [] h = refl
  find_changed p (e ∷ es) h =
      let more : find nat_cmp p (changed es) ≡ option_and_then f (find nat_cmp p es) = find_changed p es (second _ _ h) in
      by_test (eq_by_cmp nat_cmp p e.0)
      (λ t.
      let at : p ≡ e.0 = eqb-true p e.0 (sym (ties p e.0) ∙ t) in
      let gone : find nat_cmp p es ≡ None = subst (λ m. find nat_cmp m es ≡ None) (sym at) (below_none e.0 es (first _ _ h)) in
      rw t (elim (f e.1) as (λ o. find nat_cmp p (cons_option (option_map (λ x. (e.0, x)) o) (changed es)) ≡ o) [
        | None ↦ more ∙ ap (option_and_then f) gone
        | Some x ↦ ap (λ b. cond b (Some x) (find nat_cmp p (changed es))) t
      ]))
      (λ t. rw t (elim (f e.1) as (λ o. find nat_cmp p (cons_option (option_map (λ x. (e.0, x)) o) (changed es)) ≡ option_and_then f (find nat_cmp p es)) [
        | None ↦ more
        | Some x ↦ ap (λ b. cond b (Some x) (find nat_cmp p (changed es))) t ∙ more
      ]))

  -- a map in order that tells for each place what f makes of its entry
  pub changed_is : (es : List (ℕ × E)) (b : List (ℕ × X)) → T (is_sorted nat_cmp es) → T (is_sorted nat_cmp b)
      → ((p : ℕ) → find nat_cmp p b ≡ option_and_then f (find nat_cmp p es)) → b ≡ changed es
  changed_is es b sorted rising tells = same_entries nat_cmp nat_cmp_total exact_unsigned b (changed es) rising (sorted_changed es sorted) (λ p. tells p ∙ sym (find_changed p es sorted))

  pub values_changed : (es : List (ℕ × E)) → map (λ e. e.1) (changed es) ≡ filter_map f (map (λ e. e.1) es)
  values_changed [] = refl
  values_changed (e ∷ es) = elim (f e.1) as (λ o. map (λ (e : ℕ × X). e.1) (cons_option (option_map (λ x. (e.0, x)) o) (changed es)) ≡ cons_option o (filter_map f (map (λ e. e.1) es))) [
    | None ↦ values_changed es
    | Some x ↦ ap (λ l. x ∷ l) (values_changed es)
  ]

less_not : (r : Ordering) → T (is_lt r) → is_eq r ≡ false
less_not Less h = refl
less_not Equal h = absurd h
less_not Greater h = absurd h

above_not : (x p : ℕ) → T (is_lt (nat_cmp x p)) → eq_by_cmp nat_cmp p x ≡ false
above_not x p h = ties p x ∙ (turn x p ∙ (sym (ties x p) ∙ less_not (nat_cmp x p) h))
  where
    turn : (a b : ℕ) → (b == a) ≡ (a == b)
    turn a b = grind arith

-- the entry comes to a place that is free, or leaves its place
abbrev pub Turns : {E : Type 0} → E → Option E → Option E → Type 0
Turns e before after = ((before ≡ None) × (after ≡ Some e)) ⊎ ((before ≡ Some e) × (after ≡ None))

module _ {K E X : Type 0} (R : K → K → Ordering) (key : E → K) (value : E → X) where
  placed_changed : (q : K) (es : List (ℕ × E)) → placed R key value q es ≡ changed (λ e. if eq_by_cmp R q (key e) then Some (value e) else None) es
  placed_changed q [] = refl
  placed_changed q (e ∷ es) = by_test (eq_by_cmp R q (key e.1))
      (λ k. rw k (ap (λ l. (e.0, value e.1) ∷ l) (placed_changed q es)))
      (λ k. rw k (placed_changed q es))

  -- a map in order that tells for each place what the entries do is the list of the values
  pub values_are : (q : K) (es : List (ℕ × E)) (b : List (ℕ × X)) → T (is_sorted nat_cmp es) → T (is_sorted nat_cmp b)
      → ((p : ℕ) → find nat_cmp p b ≡ value_at R key value q (find nat_cmp p es)) → b ≡ placed R key value q es
  values_are q es b sorted rising tells = changed_is (λ e. if eq_by_cmp R q (key e) then Some (value e) else None) es b sorted rising tells ∙ sym (placed_changed q es)

  pub bucket_is : (q : K) (es : List (ℕ × E)) (buckets : List (K × List (ℕ × X))) → T (is_sorted nat_cmp es) → T (is_sorted nat_cmp (bucket_of R buckets q))
      → ((p : ℕ) → find_in R nat_cmp buckets q p ≡ value_at R key value q (find nat_cmp p es)) → bucket_of R buckets q ≡ placed R key value q es
  bucket_is q es buckets sorted rising tells = values_are q es (bucket_of R buckets q) sorted rising (λ p. find_under R buckets q p ∙ tells p)

  turned_at : (q : K) (e : E) (before after : Option E) → Turns e before after → (if eq_by_cmp R q (key e) then option_map value after else value_at R key value q before) ≡ value_at R key value q after
  turned_at q e before after (inl h) = (λ i. if eq_by_cmp R q (key e) then option_map value (h.1 i) else value_at R key value q (h.0 i)) ∙ sym (ap (value_at R key value q) h.1)
  turned_at q e before after (inr h) = (λ i. if eq_by_cmp R q (key e) then option_map value (h.1 i) else value_at R key value q (h.0 i)) ∙ (gone (eq_by_cmp R q (key e)) ∙ sym (ap (value_at R key value q) h.1))
    where
      gone : (b : Bool) → (if b then None else if b then Some (value e) else None) ≡ None
      gone true = refl
      gone false = refl

  -- an index keeps up with an entry that comes or goes
  pub tells_changed : (was then_at : ℕ → Option E) (n : ℕ) (e : E) (now : Option E) (old new : K → ℕ → Option X)
      → ((q : K) (p : ℕ) → old q p ≡ value_at R key value q (was p))
      → Turns e (was n) now
      → ((p : ℕ) → then_at p ≡ cond (p == n) now (was p))
      → ((q : K) (p : ℕ) → new q p ≡ (if eq_by_cmp R q (key e) && eq_by_cmp nat_cmp p n then option_map value now else old q p))
      → (q : K) (p : ℕ) → new q p ≡ value_at R key value q (then_at p)
  tells_changed was then_at n e now old new tells turns found is q p =
      let b = eq_by_cmp R q (key e) in
      is q p ∙ ((λ i. if b && ties p n i then option_map value now else tells q p i) ∙ by_test (p == n)
      (λ t. ap (λ c. if c then option_map value now else value_at R key value q (was p)) (ap (λ c. b && c) t ∙ and-true b)
      ∙ (ap (λ m. if b then option_map value now else value_at R key value q (was m)) (eqb-true p n t)
      ∙ (turned_at q e (was n) now turns ∙ ap (value_at R key value q) (sym (found p ∙ ap (λ c. cond c now (was p)) t)))))
      (λ t. ap (λ c. if c then option_map value now else value_at R key value q (was p)) (and_right b (p == n) t)
      ∙ ap (value_at R key value q) (sym (found p ∙ ap (λ c. cond c now (was p)) t))))

  -- a test of the values that have the key
  pub any_placed : (t : X → Bool) (q : K) (es : List (ℕ × E)) → list_any (λ e. t e.1) (placed R key value q es) ≡ list_any (λ e. eq_by_cmp R q (key e) && t (value e)) (map (λ e. e.1) es)
  any_placed t q [] = refl
  any_placed t q (e ∷ es) =
      elim (eq_by_cmp R q (key e.1)) as (λ b. list_any {X = ℕ × X} (λ e. t e.1) (map (λ (e : ℕ × E). (e.0, value e.1)) (cond b (e ∷ filter (λ (e : ℕ × E). eq_by_cmp R q (key e.1)) es) (filter (λ (e : ℕ × E). eq_by_cmp R q (key e.1)) es))) ≡ (b && t (value e.1) || list_any (λ (e : E). eq_by_cmp R q (key e) && t (value e)) (map (λ (e : ℕ × E). e.1) es))) [
        | true ↦ ap (λ b. t (value e.1) || b) (any_placed t q es)
        | false ↦ any_placed t q es
      ]

  below_placed : (x : ℕ) (q : K) (es : List (ℕ × E)) → T (below_all nat_cmp x es) → T (below_all nat_cmp x (placed R key value q es))
  below_placed x q es h = subst (λ l. T (below_all nat_cmp x l)) (sym (placed_changed q es)) (below_changed (λ e. if eq_by_cmp R q (key e) then Some (value e) else None) x es h)

  -- the entry in the first place of those whose value passes
  pub placed_at : (g : X → Bool) (q : K) (es : List (ℕ × E)) → T (is_sorted nat_cmp es)
      → option_and_then (λ p. find nat_cmp p es) (option_map (λ d. d.0) (find_by (λ d. g d.1) (placed R key value q es))) ≡ find_by (λ e. eq_by_cmp R q (key e) && g (value e)) (map (λ e. e.1) es)
  placed_at g q [] h = refl
  placed_at g q (e ∷ es) h =
      let more : option_and_then (λ p. find nat_cmp p (e ∷ es)) (option_map (λ d. d.0) (find_by (λ d. g d.1) (placed R key value q es))) ≡ find_by (λ e. eq_by_cmp R q (key e) && g (value e)) (map (λ e. e.1) es) =
      later g e.0 e.1 es (placed R key value q es) (below_placed e.0 q es (first _ _ h)) ∙ placed_at g q es (second _ _ h) in
      by_test (eq_by_cmp R q (key e.1))
      (λ k. by_test (g (value e.1))
      (λ t. rw (k, t) (ap (λ b. cond b (Some e.1) (find nat_cmp e.0 es)) (tied_here e.0)))
      (λ t. rw (k, t) more))
      (λ k. rw k more)
    where
      later : (g : X → Bool) (x : ℕ) (v : E) (es : List (ℕ × E)) (ds : List (ℕ × X)) → T (below_all nat_cmp x ds)
          → option_and_then (λ p. find nat_cmp p ((x, v) ∷ es)) (option_map (λ d. d.0) (find_by (λ d. g d.1) ds)) ≡ option_and_then (λ p. find nat_cmp p es) (option_map (λ d. d.0) (find_by (λ d. g d.1) ds))
      later g x v es [] h = refl
      later g x v es (d ∷ ds) h = by_test (g d.1)
          (λ t. rw t (ap (λ b. cond b (Some v) (find nat_cmp d.0 es)) (above_not x d.0 (first _ _ h))))
          (λ t. rw t (later g x v es ds (second _ _ h)))

  -- a test of the entries that have the key, by their places
  pub any_at : (t : E → Bool) (q : K) (es : List (ℕ × E)) → T (is_sorted nat_cmp es)
      → list_any (λ d. unwrap_or (option_map t (find nat_cmp d.0 es)) false) (placed R key value q es) ≡ list_any (λ e. eq_by_cmp R q (key e) && t e) (map (λ e. e.1) es)
  any_at t q [] h = refl
  any_at t q (e ∷ es) h =
      let more : list_any (λ d. unwrap_or (option_map t (find nat_cmp d.0 (e ∷ es))) false) (placed R key value q es) ≡ list_any (λ e. eq_by_cmp R q (key e) && t e) (map (λ e. e.1) es) =
      later t e.0 e.1 es (placed R key value q es) (below_placed e.0 q es (first _ _ h)) ∙ any_at t q es (second _ _ h) in
      by_test (eq_by_cmp R q (key e.1))
      (λ k. rw k (λ i. unwrap_or (option_map t (cond (tied_here e.0 i) (Some e.1) (find nat_cmp e.0 es))) false || more i))
      (λ k. rw k more)
    where
      later : (t : E → Bool) (x : ℕ) (v : E) (es : List (ℕ × E)) (ds : List (ℕ × X)) → T (below_all nat_cmp x ds)
          → list_any (λ d. unwrap_or (option_map t (find nat_cmp d.0 ((x, v) ∷ es))) false) ds ≡ list_any (λ d. unwrap_or (option_map t (find nat_cmp d.0 es)) false) ds
      later t x v es [] h = refl
      later t x v es (d ∷ ds) h = λ i. unwrap_or (option_map t (cond (above_not x d.0 (first _ _ h) i) (Some v) (find nat_cmp d.0 es))) false || later t x v es ds (second _ _ h) i
