-- Lists: what is found, what is apart, after an element more, a map and a filter.
use Rattle.std.specs.Prelude.{◌≡◌, ℕ, ◌+◌, ◌<◌, ◌≤◌, Bool, true, false, cond, List, [], ◌∷◌, ◌++◌, map, find, All, count_by, Some, None, bytes_eq}
use Rattle.std.specs.List.{list_any}
use Rattle.std.proofs.Common.{refl, sym, ap, subst, ◌∙◌, arith}
use Rattle.std.proofs.lemmas.Bool.{eqb-true, eq-eqb, both_ways}
use Rattle.std.proofs.lemmas.Slice.Eq.{bytes_eq-Decides}
use Rattle.std.proofs.lemmas.List.Elements.{All-nil, All-cons, All-head, All-tail, All-push, All-map}
use Rattle.std.proofs.lemmas.List.Sums.{sum_by-cons, sum_by_push}
use Rattle.cm_base.specs.declared.number.Oid.{Oid}
use Rattle.cmis_spec.specs.Repository.{same}
use Rattle.cmis_spec.specs.Well.{Apart}

-- a test is true or false, and the proof is by cases
pub by_test : {G : Type 0} (b : Bool) → (b ≡ true → G) → (b ≡ false → G) → G
by_test {G} b f g = elim b as (λ c. b ≡ c → G) [ true ↦ f | false ↦ g ] refl

pub same_eq : (a b : Oid) → same a b ≡ true → a ≡ b
same_eq a b h = ap (λ n. record { 0 = n }) (eqb-true a.0 b.0 h)

pub same_refl : (a : Oid) → same a a ≡ true
same_refl a = eq-eqb a.0 a.0 refl

pub differ : (a b : Oid) → (a ≡ b → ⊥) → same a b ≡ false
differ a b h = by_test (same a b) (λ e. absurd (h (same_eq a b e))) (λ e. e)

pub some_eq : {A : Type 0} (x y : A) → Some x ≡ Some y → x ≡ y
some_eq x y h = ap (λ o. elim o [ None ↦ x | Some z ↦ z ]) h

pub find_yes : {A : Type 0} (p : A → Bool) (x : A) (xs : List A) → p x ≡ true → find p (x ∷ xs) ≡ Some x
find_yes p x xs h = rw h refl

pub find_no : {A : Type 0} (p : A → Bool) (x : A) (xs : List A) → p x ≡ false → find p (x ∷ xs) ≡ find p xs
find_no p x xs h = rw h refl

pub find_alike : {A : Type 0} (p q : A → Bool) (xs : List A) → All (λ x. p x ≡ q x) xs → find p xs ≡ find q xs
find_alike p q [] h = refl
find_alike p q (x ∷ xs) h = rw (All-head (λ x. p x ≡ q x) x xs h, find_alike p q xs (All-tail (λ x. p x ≡ q x) x xs h)) refl

pub bytes_turned : (xs ys : List ℕ) → bytes_eq xs ys ≡ false → bytes_eq ys xs ≡ false
bytes_turned xs ys h = by_test (bytes_eq ys xs) (λ e. absurd (both_ways (bytes_eq xs ys) h ((bytes_eq-Decides xs ys).1 (sym ((bytes_eq-Decides ys xs).0 e))))) (λ e. e)

pub none_some : {A : Type 0} (x : A) → None ≡ Some x → ⊥
none_some x h = both_ways false refl (ap (λ o. elim o [ None ↦ false | Some y ↦ true ]) h)

pub found_passes : {A : Type 0} (p : A → Bool) (xs : List A) (x : A) → find p xs ≡ Some x → p x ≡ true
found_passes p [] x h = absurd (none_some x h)
found_passes p (y ∷ ys) x h = by_test (p y)
    (λ e. subst (λ z. p z ≡ true) (ap (λ o. elim o [ None ↦ y | Some z ↦ z ]) (sym (find_yes p y ys e) ∙ h)) e)
    (λ e. found_passes p ys x (sym (find_no p y ys e) ∙ h))

pub found_holds : {A : Type 0} (P : A → Type 0) (p : A → Bool) (xs : List A) (x : A) → All P xs → find p xs ≡ Some x → P x
found_holds P p [] x all h = absurd (none_some x h)
found_holds P p (y ∷ ys) x all h = by_test (p y)
    (λ e. subst P (ap (λ o. elim o [ None ↦ y | Some z ↦ z ]) (sym (find_yes p y ys e) ∙ h)) (All-head P y ys all))
    (λ e. found_holds P p ys x (All-tail P y ys all) (sym (find_no p y ys e) ∙ h))

pub find_more : {A : Type 0} (p : A → Bool) (xs : List A) (y x : A) → find p xs ≡ Some x → find p (xs ++ y ∷ []) ≡ Some x
find_more p [] y x h = absurd (none_some x h)
find_more p (z ∷ zs) y x h = by_test (p z)
    (λ e. find_yes p z (zs ++ y ∷ []) e ∙ (sym (find_yes p z zs e) ∙ h))
    (λ e. find_no p z (zs ++ y ∷ []) e ∙ find_more p zs y x (sym (find_no p z zs e) ∙ h))

pub find_none : {A : Type 0} (p : A → Bool) (xs : List A) → All (λ x. p x ≡ false) xs → find p xs ≡ None
find_none p [] all = refl
find_none p (x ∷ xs) all = find_no p x xs (All-head (λ x. p x ≡ false) x xs all) ∙ find_none p xs (All-tail (λ x. p x ≡ false) x xs all)

pub find_last : {A : Type 0} (p : A → Bool) (xs : List A) (y : A) → All (λ x. p x ≡ false) xs → p y ≡ true → find p (xs ++ y ∷ []) ≡ Some y
find_last p [] y all h = find_yes p y [] h
find_last p (x ∷ xs) y all h = find_no p x (xs ++ y ∷ []) (All-head (λ x. p x ≡ false) x xs all) ∙ find_last p xs y (All-tail (λ x. p x ≡ false) x xs all) h

-- what is added at the end does not pass: the look-up is the same
pub find_passed_over : {A : Type 0} (p : A → Bool) (xs : List A) (y : A) → p y ≡ false → find p (xs ++ y ∷ []) ≡ find p xs
find_passed_over p [] y h = find_no p y [] h
find_passed_over p (x ∷ xs) y h = by_test (p x)
    (λ e. find_yes p x (xs ++ y ∷ []) e ∙ sym (find_yes p x xs e))
    (λ e. find_no p x (xs ++ y ∷ []) e ∙ (find_passed_over p xs y h ∙ sym (find_no p x xs e)))

pub all_from_any : {A : Type 0} (p : A → Bool) (xs : List A) → list_any p xs ≡ false → All (λ x. p x ≡ false) xs
all_from_any p [] h = All-nil (λ x. p x ≡ false)
all_from_any p (x ∷ xs) h = by_test (p x)
    (λ e. absurd (both_ways true (rw e at h) refl))
    (λ e. All-cons (λ x. p x ≡ false) x xs e (all_from_any p xs (rw e at h)))

-- ---- All and Apart

-- both facts of each element
pub all_zip : {A : Type 0} (P Q R : A → Type 0) (xs : List A) → ((x : A) → P x → Q x → R x) → All P xs → All Q xs → All R xs
all_zip P Q R [] f ps qs = All-nil R
all_zip P Q R (x ∷ xs) f ps qs = All-cons R x xs (f x (All-head P x xs ps) (All-head Q x xs qs)) (all_zip P Q R xs f (All-tail P x xs ps) (All-tail Q x xs qs))

pub apart_push : {A : Type 0} (R : A → A → Type 0) (xs : List A) (y : A) → Apart R xs → All (λ x. R x y) xs → Apart R (xs ++ y ∷ [])
apart_push R [] y ap all = (All-nil (R y), tt)
apart_push R (x ∷ xs) y ap all = (All-push (R x) xs y ap.0 (All-head (λ x. R x y) x xs all), apart_push R xs y ap.1 (All-tail (λ x. R x y) x xs all))

pub apart_weaker : {A : Type 0} (P : A → Type 0) (R S : A → A → Type 0) (xs : List A) → ((x y : A) → P x → P y → R x y → S x y) → All P xs → Apart R xs → Apart S xs
apart_weaker P R S [] f all ap = tt
apart_weaker P R S (x ∷ xs) f all ap =
    (all_zip P (R x) (S x) xs (λ y p q. f x y (All-head P x xs all) p q) (All-tail P x xs all) ap.0, apart_weaker P R S xs f (All-tail P x xs all) ap.1)

pub apart_map : {A B : Type 0} (R : B → B → Type 0) (f : A → B) (xs : List A) → Apart (λ x y. R (f x) (f y)) xs → Apart R (map f xs)
apart_map R f [] ap = tt
apart_map R f (x ∷ xs) ap = (All-map (R (f x)) f xs ap.0, apart_map R f xs ap.1)

-- ---- counts

pub count_cons : {A : Type 0} (p : A → Bool) (x : A) (xs : List A) → count_by p (x ∷ xs) ≡ cond (p x) 1 0 + count_by p xs
count_cons p x xs = sum_by-cons (λ y. cond (p y) 1 0) x xs

pub count_push : {A : Type 0} (p : A → Bool) (xs : List A) (y : A) → count_by p (xs ++ y ∷ []) ≡ count_by p xs + cond (p y) 1 0
count_push p xs y = sum_by_push (λ z. cond (p z) 1 0) xs y

pub count_passed_over : {A : Type 0} (p : A → Bool) (xs : List A) (y : A) → p y ≡ false → count_by p (xs ++ y ∷ []) ≡ count_by p xs
count_passed_over p xs y h =
    let e : count_by p (xs ++ y ∷ []) ≡ count_by p xs + 0 = subst (λ b. count_by p (xs ++ y ∷ []) ≡ count_by p xs + cond b 1 0) h (count_push p xs y) in
    omega (arith, e)

pub count_none : {A : Type 0} (p : A → Bool) (xs : List A) → All (λ x. p x ≡ false) xs → count_by p xs ≡ 0
count_none p [] all = refl
count_none p (x ∷ xs) all =
    count_cons p x xs ∙ (ap (λ b. cond b 1 0 + count_by p xs) (All-head (λ x. p x ≡ false) x xs all) ∙ (ap (λ n. 0 + n) (count_none p xs (All-tail (λ x. p x ≡ false) x xs all))))

pub count_last : {A : Type 0} (p : A → Bool) (xs : List A) (y : A) → All (λ x. p x ≡ false) xs → count_by p (xs ++ y ∷ []) ≤ 1
count_last p xs y all =
    let e : count_by p (xs ++ y ∷ []) ≡ count_by p xs + cond (p y) 1 0 = count_push p xs y in
    let z : count_by p xs ≡ 0 = count_none p xs all in
    let b : cond (p y) 1 0 ≤ 1 = by_test (p y) (λ h. rw h (omega arith)) (λ h. rw h (omega arith)) in
    omega (arith, e, z, b)

-- ---- one of a list

pub any_pushed : {A : Type 0} (p : A → Bool) (xs : List A) (y : A) → list_any p xs ≡ true → list_any p (xs ++ y ∷ []) ≡ true
any_pushed p [] y h = absurd (both_ways false refl h)
any_pushed p (x ∷ xs) y h = by_test (p x) (λ e. rw e refl) (λ e. rw e (any_pushed p xs y (rw e at h)))

pub any_new : {A : Type 0} (p : A → Bool) (xs : List A) (y : A) → p y ≡ true → list_any p (xs ++ y ∷ []) ≡ true
any_new p [] y h = rw h refl
any_new p (x ∷ xs) y h = by_test (p x) (λ e. rw e refl) (λ e. rw e (any_new p xs y h))

pub any_mapped : {A : Type 0} (p : A → Bool) (f : A → A) (xs : List A) → ((x : A) → p (f x) ≡ p x) → list_any p (map f xs) ≡ list_any p xs
any_mapped p f [] h = refl
any_mapped p f (x ∷ xs) h = rw (h x, any_mapped p f xs h) refl

-- ---- numbers in order

-- each is found by its number
pub all_found : {A : Type 0} (id : A → Oid) (xs : List A) → Apart (λ x y. (id x).0 < (id y).0) xs → All (λ x. find (λ y. same (id y) (id x)) xs ≡ Some x) xs
all_found id [] a = All-nil (λ x. find (λ y. same (id y) (id x)) [] ≡ Some x)
all_found id (x ∷ xs) a = All-cons (λ z. find (λ y. same (id y) (id z)) (x ∷ xs) ≡ Some z) x xs (find_yes (λ y. same (id y) (id x)) x xs (same_refl (id x)))
    (all_zip (λ z. (id x).0 < (id z).0) (λ z. find (λ y. same (id y) (id z)) xs ≡ Some z) (λ z. find (λ y. same (id y) (id z)) (x ∷ xs) ≡ Some z) xs
    (λ z l e. find_no (λ y. same (id y) (id z)) x xs (differ (id x) (id z) (λ k. let n : (id x).0 ≡ (id z).0 = ap (λ m. m.0) k in omega (arith, n, l))) ∙ e) a.0 (all_found id xs a.1))

-- what a search finds is found by its number
pub found_by_number : {A : Type 0} (id : A → Oid) (q : A → Bool) (xs : List A) (x : A) → Apart (λ y z. (id y).0 < (id z).0) xs → find q xs ≡ Some x → find (λ y. same (id y) (id x)) xs ≡ Some x
found_by_number id q [] x ap h = absurd (none_some x h)
found_by_number id q (y ∷ ys) x apart h = by_test (q y)
    (λ e. let at : y ≡ x = ap (λ o. elim o [ None ↦ y | Some z ↦ z ]) (sym (find_yes q y ys e) ∙ h) in
    find_yes (λ z. same (id z) (id x)) y ys (subst (λ z. same (id z) (id x) ≡ true) (sym at) (same_refl (id x))) ∙ ap Some at)
    (λ e. let there : find q ys ≡ Some x = sym (find_no q y ys e) ∙ h in
    let above : (id y).0 < (id x).0 = found_holds (λ z. (id y).0 < (id z).0) q ys x apart.0 there in
    find_no (λ z. same (id z) (id x)) y ys (differ (id y) (id x) (λ k. let l : (id y).0 ≡ (id x).0 = ap (λ n. n.0) k in omega (arith, l, above)))
    ∙ found_by_number id q ys x apart.1 there)
