-- Filters of filters, and what a list has among it.
use Rattle.std.specs.Prelude.{◌≡◌, ℕ, ◌+◌, ◌<◌, Bool, true, false, ◌&&◌, ◌||◌, not, List, [], ◌∷◌, ◌++◌, filter, All}
use Rattle.std.specs.List.{list_any, flat_map}
use Rattle.std.proofs.Common.{length, take, get_or, refl, sym, ap, ◌∙◌, arith}
use Rattle.std.proofs.lemmas.List.{take_more, append-nil, append_assoc}
use Rattle.std.proofs.lemmas.Bool.{both_ways}
use Rattle.std.proofs.lemmas.List.Elements.{All-head, All-tail, filter_agree}
use Rattle.cmis_laws.proofs.Lists.{by_test}

pub filter_twice : {A : Type 0} (p q : A → Bool) (xs : List A) → filter q (filter p xs) ≡ filter (λ x. p x && q x) xs
filter_twice p q [] = refl
filter_twice p q (x ∷ xs) = by_test (p x)
    (λ e. by_test (q x) (λ d. rw (e, d) (ap (λ l. x ∷ l) (filter_twice p q xs))) (λ d. rw (e, d) (filter_twice p q xs)))
    (λ e. rw e (filter_twice p q xs))

pub filter_same : {A : Type 0} (p q : A → Bool) (xs : List A) → All (λ x. p x ≡ q x) xs → filter p xs ≡ filter q xs
filter_same p q [] h = refl
filter_same p q (x ∷ xs) h =
    let here : p x ≡ q x = All-head (λ x. p x ≡ q x) x xs h in
    let rest : filter p xs ≡ filter q xs = filter_same p q xs (All-tail (λ x. p x ≡ q x) x xs h) in
    by_test (q x)
    (λ e. let d : p x ≡ true = here ∙ e in rw (d, e) (ap (λ l. x ∷ l) rest))
    (λ e. let d : p x ≡ false = here ∙ e in rw (d, e) rest)

pub filter_whole : {A : Type 0} (p : A → Bool) (xs : List A) → All (λ x. p x ≡ true) xs → filter p xs ≡ xs
filter_whole p [] h = refl
filter_whole p (x ∷ xs) h = rw (All-head (λ x. p x ≡ true) x xs h) (ap (λ l. x ∷ l) (filter_whole p xs (All-tail (λ x. p x ≡ true) x xs h)))

-- one more that is tested
pub any_last : {A : Type 0} (t : A → Bool) (xs : List A) (x : A) → list_any t (xs ++ x ∷ []) ≡ (list_any t xs || t x)
any_last t [] x = or_false (t x)
  where
    or_false : (b : Bool) → (b || false) ≡ b
    or_false b = grind arith
any_last t (y ∷ ys) x = ap (λ b. t y || b) (any_last t ys x) ∙ turned (t y) (list_any t ys) (t x)
  where
    turned : (a b c : Bool) → (a || (b || c)) ≡ ((a || b) || c)
    turned a b c = grind arith

-- a filter more is a test more of what goes
pub gone_last : {A B : Type 0} (t : A → B → Bool) (xs : List B) (x : B) (es : List A) → filter (λ a. not (t a x)) (filter (λ a. not (list_any (t a) xs)) es) ≡ filter (λ a. not (list_any (t a) (xs ++ x ∷ []))) es
gone_last t xs x es = filter_twice (λ a. not (list_any (t a) xs)) (λ a. not (t a x)) es
    ∙ filter_agree (λ a. not (list_any (t a) xs) && not (t a x)) (λ a. not (list_any (t a) (xs ++ x ∷ []))) (λ a. both (list_any (t a) xs) (t a x) ∙ ap not (sym (any_last (t a) xs x))) es
  where
    both : (a b : Bool) → (not a && not b) ≡ not (a || b)
    both a b = grind arith

-- in a loop
pub gone_more : {A B : Type 0} (t : A → B → Bool) (xs : List B) (i : ℕ) (d : B) → i < length xs → (es : List A)
    → filter (λ a. not (t a (get_or xs i d))) (filter (λ a. not (list_any (t a) (take i xs))) es) ≡ filter (λ a. not (list_any (t a) (take (i + 1) xs))) es
gone_more t xs i d l es = gone_last t (take i xs) (get_or xs i d) es ∙ ap (λ ys. filter (λ a. not (list_any (t a) ys)) es) (sym (take_more xs i d l))

pub all_pass : {A : Type 0} (xs : List A) → filter (λ x. true) xs ≡ xs
all_pass [] = refl
all_pass (x ∷ xs) = ap (λ l. x ∷ l) (all_pass xs)

pub flat_last : {A B : Type 0} (f : A → List B) (xs : List A) (x : A) → flat_map f (xs ++ x ∷ []) ≡ flat_map f xs ++ f x
flat_last f [] x = append-nil (f x)
flat_last f (y ∷ ys) x = ap (λ l. f y ++ l) (flat_last f ys x) ∙ sym (append_assoc (f y) (flat_map f ys) (f x))
