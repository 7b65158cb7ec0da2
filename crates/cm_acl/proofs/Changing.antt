-- Lists of entries and their sets of keys.
use Rattle.std.proofs.Common.{◌≡◌, ◌<◌, ◌+◌, length, get_or, take, ℕ, Bool, true, false, not, cond, ◌||◌, List, [], ◌∷◌, ◌++◌, map, filter, fold, sym, ap, refl, ◌∙◌, subst, append_assoc, Less, is_eq, is_lt, is_gt}
use Rattle.std.specs.List.{list_any}
use Rattle.core.specs.List.{AllByRecursion}
use Rattle.core.specs.Ordering.{eq_by_cmp, nat_cmp, ordering_then}
use Rattle.core.specs.Cmp.Lexicographic.{slice_cmp}
use Rattle.std.proofs.lemmas.List.Elements.{All-from_recursion, recursion_from_All}
use mathlib.Core.List.{map-append}
use Rattle.std.proofs.lemmas.List.{append-nil, take_more}
use Rattle.cm_base.specs.declared.access.Ace.{Ace}
use Rattle.cm_base.specs.declared.access.Level.{Level}
use Rattle.cm_base.specs.declared.access.Level.TheVariants as levels
use Rattle.cm_base.specs.contracts.access.LevelOrd.TheImpl.{ghosts}
use Rattle.cm_map.specs.Sets.{IsRising, has_key, with_key}
use Rattle.cmis_spec.specs.Access.{rank}
use Rattle.cmis_spec.specs.Well.{Apart, ComesBefore}
use Rattle.cm_acl.specs.Acl.{ace_order, same_ace, with_ace, without_aces, changed_aces}
use Rattle.cm_acl.specs.Keys.{ace_key, ace_of_key, key_order, kept_with}

level_same : (l m : Level) → ghosts.cmp l m ≡ nat_cmp (rank l) (rank m)
level_same levels.None levels.None = refl
level_same levels.None levels.Read = refl
level_same levels.None levels.Write = refl
level_same levels.None levels.All = refl
level_same levels.Read levels.None = refl
level_same levels.Read levels.Read = refl
level_same levels.Read levels.Write = refl
level_same levels.Read levels.All = refl
level_same levels.Write levels.None = refl
level_same levels.Write levels.Read = refl
level_same levels.Write levels.Write = refl
level_same levels.Write levels.All = refl
level_same levels.All levels.None = refl
level_same levels.All levels.Read = refl
level_same levels.All levels.Write = refl
level_same levels.All levels.All = refl

order_same : (a b : Ace) → key_order (ace_key a) (ace_key b) ≡ ace_order a b
order_same a b = ap (ordering_then (slice_cmp nat_cmp a.principal b.principal)) (level_same a.level b.level)

-- a test of keys and a test of entries that agree
filter_same : (p : List ℕ × Level → Bool) (q : Ace → Bool) → ((a : Ace) → p (ace_key a) ≡ q a) → (aces : List Ace) → filter p (map ace_key aces) ≡ map ace_key (filter q aces)
filter_same p q e [] = refl
filter_same p q e (a ∷ aces) =
    ap (λ b. cond b (ace_key a ∷ filter p (map ace_key aces)) (filter p (map ace_key aces))) (e a)
    ∙ elim (q a) as (λ b. cond b (ace_key a ∷ filter p (map ace_key aces)) (filter p (map ace_key aces)) ≡ map ace_key (cond b (a ∷ filter q aces) (filter q aces))) [
      | true ↦ ap (λ l. ace_key a ∷ l) (filter_same p q e aces)
      | false ↦ filter_same p q e aces
    ]

with_same : (aces : List Ace) (a : Ace) → with_key key_order (map ace_key aces) (ace_key a) ≡ map ace_key (with_ace aces a)
with_same aces a =
    let low = filter_same (λ x. is_lt (key_order x (ace_key a))) (λ b. is_lt (ace_order b a)) (λ b. ap is_lt (order_same b a)) aces in
    let high = filter_same (λ x. is_gt (key_order x (ace_key a))) (λ b. is_gt (ace_order b a)) (λ b. ap is_gt (order_same b a)) aces in
    (λ i. low i ++ ace_key a ∷ high i) ∙ sym (map-append ace_key (filter (λ b. is_lt (ace_order b a)) aces) (a ∷ filter (λ b. is_gt (ace_order b a)) aces))

added_same : (aces add : List Ace) → fold (with_key key_order) (map ace_key aces) (map ace_key add) ≡ map ace_key (fold with_ace aces add)
added_same aces [] = refl
added_same aces (a ∷ add) = ap (λ l. fold (with_key key_order) l (map ace_key add)) (with_same aces a) ∙ added_same (with_ace aces a) add

has_same : (a : Ace) (aces : List Ace) → has_key key_order (ace_key a) (map ace_key aces) ≡ list_any (same_ace a) aces
has_same a [] = refl
has_same a (b ∷ aces) = λ i. is_eq (order_same a b i) || has_same a aces i

-- what an or over a list, its last first, comes to
or_over : (q : List ℕ × Level) (b : Bool) (ks : List (List ℕ × Level)) → fold (λ b k. eq_by_cmp key_order q k || b) b ks ≡ (has_key key_order q ks || b)
or_over q b [] = refl
or_over q b (k ∷ ks) = or_over q (eq_by_cmp key_order q k || b) ks ∙ swap (has_key key_order q ks) (eq_by_cmp key_order q k) b
  where
    swap : (x y z : Bool) → (x || (y || z)) ≡ ((y || x) || z)
    swap true true z = refl
    swap true false z = refl
    swap false true z = refl
    swap false false z = refl

or_false : (b : Bool) → (b || false) ≡ b
or_false true = refl
or_false false = refl

-- the set of the entries to remove
pub removed_has : (removed : List (List ℕ × Level)) (remove : List Ace) → ((q : List ℕ × Level) → has_key key_order q removed ≡ fold (λ b k. eq_by_cmp key_order q k || b) false (map ace_key remove)) → (a : Ace) → has_key key_order (ace_key a) removed ≡ list_any (same_ace a) remove
removed_has removed remove h a = h (ace_key a) ∙ or_over (ace_key a) false (map ace_key remove) ∙ or_false _ ∙ has_same a remove

-- ---- a list in order is its own set

last_low : (ks : List (List ℕ × Level)) (k : List ℕ × Level) (rest : List (List ℕ × Level)) → IsRising key_order (ks ++ k ∷ rest) → with_key key_order ks k ≡ ks ++ k ∷ []
last_low ks k rest h = λ i. low ks h i ++ k ∷ high ks h i
  where
    here : (x : List ℕ × Level) (ks : List (List ℕ × Level)) → AllByRecursion (λ y. key_order x y ≡ Less) (ks ++ k ∷ rest) → key_order x k ≡ Less
    here x [] h = h.0
    here x (y ∷ ks) h = here x ks h.1

    low : (ks : List (List ℕ × Level)) → IsRising key_order (ks ++ k ∷ rest) → filter (λ x. is_lt (key_order x k)) ks ≡ ks
    low [] h = refl
    low (x ∷ ks) h = ap (λ r. cond (is_lt r) (x ∷ filter (λ x. is_lt (key_order x k)) ks) (filter (λ x. is_lt (key_order x k)) ks)) (here x ks h.0) ∙ ap (λ l. x ∷ l) (low ks h.1)

    high : (ks : List (List ℕ × Level)) → IsRising key_order (ks ++ k ∷ rest) → filter (λ x. is_gt (key_order x k)) ks ≡ []
    high [] h = refl
    high (x ∷ ks) h = ap (λ r. cond (is_gt r) (x ∷ filter (λ x. is_gt (key_order x k)) ks) (filter (λ x. is_gt (key_order x k)) ks)) (here x ks h.0) ∙ high ks h.1

left_out : (ks : List (List ℕ × Level)) (k : List ℕ × Level) (rest : List (List ℕ × Level)) → IsRising key_order (ks ++ k ∷ rest) → IsRising key_order (ks ++ rest)
left_out [] k rest h = h.1
left_out (x ∷ ks) k rest h = (among ks h.0, left_out ks k rest h.1)
  where
    among : (ks : List (List ℕ × Level)) → AllByRecursion (λ y. key_order x y ≡ Less) (ks ++ k ∷ rest) → AllByRecursion (λ y. key_order x y ≡ Less) (ks ++ rest)
    among [] h = h.1
    among (y ∷ ks) h = (h.0, among ks h.1)

kept_all : (removed ks : List (List ℕ × Level)) (aces : List Ace) → IsRising key_order (ks ++ map ace_key aces) → fold (kept_with removed) ks aces ≡ ks ++ map ace_key (filter (λ a. not (has_key key_order (ace_key a) removed)) aces)
kept_all removed ks [] h = sym (append-nil ks)
kept_all removed ks (a ∷ aces) h =
    let p = λ (a : Ace). not (has_key key_order (ace_key a) removed) in
    elim (has_key key_order (ace_key a) removed) as (λ b. fold (kept_with removed) (cond b ks (with_key key_order ks (ace_key a))) aces ≡ ks ++ map ace_key (cond (not b) (a ∷ filter p aces) (filter p aces))) [
      | true ↦ kept_all removed ks aces (left_out ks (ace_key a) (map ace_key aces) h)
      | false ↦ ap (λ l. fold (kept_with removed) l aces) (last_low ks (ace_key a) (map ace_key aces) h)
          ∙ kept_all removed (ks ++ ace_key a ∷ []) aces (subst (IsRising key_order) (sym (append_assoc ks (ace_key a ∷ []) (map ace_key aces))) h)
          ∙ append_assoc ks (ace_key a ∷ []) (map ace_key (filter p aces))
    ]

rising_from : (aces : List Ace) → Apart ComesBefore aces → IsRising key_order (map ace_key aces)
rising_from [] h = tt
rising_from (a ∷ aces) h = (below aces (recursion_from_All (ComesBefore a) aces h.0), rising_from aces h.1)
  where
    below : (aces : List Ace) → AllByRecursion (ComesBefore a) aces → AllByRecursion (λ y. key_order (ace_key a) y ≡ Less) (map ace_key aces)
    below [] h = tt
    below (b ∷ aces) h = (order_same a b ∙ h.0, below aces h.1)

pub apart_from : (aces : List Ace) → IsRising key_order (map ace_key aces) → Apart ComesBefore aces
apart_from [] h = tt
apart_from (a ∷ aces) h = (All-from_recursion (ComesBefore a) aces (below aces h.0), apart_from aces h.1)
  where
    below : (aces : List Ace) → AllByRecursion (λ y. key_order (ace_key a) y ≡ Less) (map ace_key aces) → AllByRecursion (ComesBefore a) aces
    below [] h = tt
    below (b ∷ aces) h = (sym (order_same a b) ∙ h.0, below aces h.1)

pub back : (aces : List Ace) → map ace_of_key (map ace_key aces) ≡ aces
back [] = refl
back (a ∷ aces) = ap (λ l. a ∷ l) (back aces)

filter_by : (p q : Ace → Bool) → ((a : Ace) → p a ≡ q a) → (aces : List Ace) → filter p aces ≡ filter q aces
filter_by p q e [] = refl
filter_by p q e (a ∷ aces) = λ i. cond (e a i) (a ∷ filter_by p q e aces i) (filter_by p q e aces i)

-- the set of the changed list
pub changed_same : (aces remove add : List Ace) (removed : List (List ℕ × Level)) → Apart ComesBefore aces → ((a : Ace) → has_key key_order (ace_key a) removed ≡ list_any (same_ace a) remove) → fold (with_key key_order) (fold (kept_with removed) [] aces) (map ace_key add) ≡ map ace_key (changed_aces aces remove add)
changed_same aces remove add removed h e =
    let kept = filter (λ a. not (has_key key_order (ace_key a) removed)) aces in
    ap (λ l. fold (with_key key_order) l (map ace_key add)) (kept_all removed [] aces (rising_from aces h))
    ∙ ap (λ l. fold (with_key key_order) (map ace_key l) (map ace_key add)) (filter_by (λ a. not (has_key key_order (ace_key a) removed)) (λ a. not (list_any (same_ace a) remove)) (λ a. ap not (e a)) aces)
    ∙ added_same (without_aces remove aces) add

fold-append : {A B : Type 0} (f : B → A → B) (b : B) (xs : List A) (x : A) → fold f b (xs ++ x ∷ []) ≡ f (fold f b xs) x
fold-append f b [] x = refl
fold-append f b (y ∷ xs) x = fold-append f (f b y) xs x

-- one entry more
pub fold_step : {A B C : Type 0} (f : B → C → B) (b : B) (g : A → C) (xs : List A) (i : ℕ) (x : A) → i < length xs → x ≡ get_or xs i x → fold f b (map g (take (i + 1) xs)) ≡ f (fold f b (map g (take i xs))) (g x)
fold_step f b g xs i x lt is =
    ap (λ l. fold f b (map g l)) (take_more xs i x lt ∙ ap (λ y. take i xs ++ y ∷ []) (sym is))
    ∙ ap (fold f b) (map-append g (take i xs) (x ∷ []))
    ∙ fold-append f b (map g (take i xs)) (g x)
