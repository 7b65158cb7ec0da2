-- Lists of which a part stays: what is found in it, what holds of it, and how many there are.
use Rattle.std.specs.Prelude.{◌≡◌, ◌+◌, ◌≤◌, Bool, true, false, cond, not, ◌||◌, List, [], ◌∷◌, ◌++◌, map, filter, find, All, count_by, None}
use Rattle.std.specs.List.{list_any}
use Rattle.std.proofs.Common.{refl, sym, ap, subst, ◌∙◌, arith}
use Rattle.std.proofs.lemmas.Bool.{both_ways}
use Rattle.std.proofs.lemmas.List.Elements.{All-nil, All-cons, All-head, All-tail, All-filter, All-append}
use Rattle.cmis_spec.specs.Well.{Apart}
use Rattle.cmis_laws.proofs.Lists.{by_test, find_yes, find_no, count_cons}

filter_yes : {A : Type 0} (q : A → Bool) (x : A) (xs : List A) → q x ≡ true → filter q (x ∷ xs) ≡ x ∷ filter q xs
filter_yes q x xs h = rw h refl

filter_no : {A : Type 0} (q : A → Bool) (x : A) (xs : List A) → q x ≡ false → filter q (x ∷ xs) ≡ filter q xs
filter_no q x xs h = rw h refl

pub not_true : (b : Bool) → not b ≡ true → b ≡ false
not_true true h = absurd (both_ways false refl h)
not_true false h = refl

-- what holds of each that stays
pub all_kept : {A : Type 0} (q : A → Bool) (P : A → Type 0) (xs : List A) → All (λ x. q x ≡ true → P x) xs → All P (filter q xs)
all_kept q P [] all = All-nil P
all_kept q P (x ∷ xs) all = by_test (q x)
    (λ e. subst (All P) (sym (filter_yes q x xs e)) (All-cons P x (filter q xs) (All-head (λ x. q x ≡ true → P x) x xs all e) (all_kept q P xs (All-tail (λ x. q x ≡ true → P x) x xs all))))
    (λ e. subst (All P) (sym (filter_no q x xs e)) (all_kept q P xs (All-tail (λ x. q x ≡ true → P x) x xs all)))

pub apart_filter : {A : Type 0} (R : A → A → Type 0) (q : A → Bool) (xs : List A) → Apart R xs → Apart R (filter q xs)
apart_filter R q [] ap' = tt
apart_filter R q (x ∷ xs) ap' = by_test (q x)
    (λ e. subst (Apart R) (sym (filter_yes q x xs e)) (All-filter q (R x) xs ap'.0, apart_filter R q xs ap'.1))
    (λ e. subst (Apart R) (sym (filter_no q x xs e)) (apart_filter R q xs ap'.1))

pub apart_append : {A : Type 0} (R : A → A → Type 0) (xs ys : List A) → Apart R xs → Apart R ys → All (λ x. All (R x) ys) xs → Apart R (xs ++ ys)
apart_append R [] ys a b all = b
apart_append R (x ∷ xs) ys a b all = (All-append (R x) xs ys a.0 (All-head (λ x. All (R x) ys) x xs all), apart_append R xs ys a.1 b (All-tail (λ x. All (R x) ys) x xs all))

-- ---- what is found

pub find_filtered : {A : Type 0} (p q : A → Bool) (xs : List A) → ((x : A) → p x ≡ true → q x ≡ true) → find p (filter q xs) ≡ find p xs
find_filtered p q [] h = refl
find_filtered p q (x ∷ xs) h = by_test (q x)
    (λ e. ap (find p) (filter_yes q x xs e) ∙ by_test (p x)
    (λ d. find_yes p x (filter q xs) d ∙ sym (find_yes p x xs d))
    (λ d. find_no p x (filter q xs) d ∙ (find_filtered p q xs h ∙ sym (find_no p x xs d))))
    (λ e. ap (find p) (filter_no q x xs e) ∙ (find_filtered p q xs h ∙ sym (find_no p x xs (by_test (p x) (λ d. absurd (both_ways (q x) e (h x d))) (λ d. d)))))

pub none_filtered : {A : Type 0} (p q : A → Bool) (xs : List A) → ((x : A) → p x ≡ true → q x ≡ false) → find p (filter q xs) ≡ None
none_filtered p q [] h = refl
none_filtered p q (x ∷ xs) h = by_test (q x)
    (λ e. ap (find p) (filter_yes q x xs e) ∙ (find_no p x (filter q xs) (by_test (p x) (λ d. absurd (both_ways (q x) (h x d) e)) (λ d. d)) ∙ none_filtered p q xs h))
    (λ e. ap (find p) (filter_no q x xs e) ∙ none_filtered p q xs h)

pub any_filtered : {A : Type 0} (p q : A → Bool) (xs : List A) → ((x : A) → p x ≡ true → q x ≡ true) → list_any p (filter q xs) ≡ list_any p xs
any_filtered p q [] h = refl
any_filtered p q (x ∷ xs) h = by_test (q x)
    (λ e. ap (list_any p) (filter_yes q x xs e) ∙ ap (λ b. p x || b) (any_filtered p q xs h))
    (λ e. ap (list_any p) (filter_no q x xs e) ∙ (any_filtered p q xs h ∙ sym (ap (λ b. b || list_any p xs) (by_test (p x) (λ d. absurd (both_ways (q x) e (h x d))) (λ d. d)))))

pub any_some : {A : Type 0} (p : A → Bool) (xs : List A) → list_any p xs ≡ true → list_any (λ x. true) xs ≡ true
any_some p [] h = h
any_some p (x ∷ xs) h = refl

pub filter_map_swap : {A B : Type 0} (f : A → B) (q : B → Bool) (xs : List A) → map f (filter (λ x. q (f x)) xs) ≡ filter q (map f xs)
filter_map_swap f q [] = refl
filter_map_swap f q (x ∷ xs) = by_test (q (f x))
    (λ e. ap (map f) (filter_yes (λ y. q (f y)) x xs e) ∙ (ap (λ l. f x ∷ l) (filter_map_swap f q xs) ∙ sym (filter_yes q (f x) (map f xs) e)))
    (λ e. ap (map f) (filter_no (λ y. q (f y)) x xs e) ∙ (filter_map_swap f q xs ∙ sym (filter_no q (f x) (map f xs) e)))

pub count_filtered : {A : Type 0} (p q : A → Bool) (xs : List A) → count_by p (filter q xs) ≤ count_by p xs
count_filtered p q [] = omega arith
count_filtered p q (x ∷ xs) =
    let rest : count_by p (filter q xs) ≤ count_by p xs = count_filtered p q xs in
    let whole : count_by p (x ∷ xs) ≡ cond (p x) 1 0 + count_by p xs = count_cons p x xs in
    by_test (q x)
    (λ e. let part : count_by p (filter q (x ∷ xs)) ≡ cond (p x) 1 0 + count_by p (filter q xs) = ap (count_by p) (filter_yes q x xs e) ∙ count_cons p x (filter q xs) in omega (arith, rest, whole, part))
    (λ e. let part : count_by p (filter q (x ∷ xs)) ≡ count_by p (filter q xs) = ap (count_by p) (filter_no q x xs e) in omega (arith, rest, whole, part))
