-- Lists of what a caller sees: tests among all, and among the seen.
use Rattle.std.specs.Prelude.{◌≡◌, ◌+◌, ◌<◌, ◌≤◌, Bool, true, false, ◌&&◌, ◌||◌, if◌then◌else◌, List, [], ◌∷◌, map, filter, find, All, count_by, Some, None, unwrap_or, option_map, option_and_then}
use Rattle.std.specs.List.{list_any}
use Rattle.std.proofs.Common.{refl, sym, ap, subst, ◌∙◌, arith}
use Rattle.std.proofs.lemmas.Bool.{both_ways}
use Rattle.std.proofs.lemmas.List.Elements.{All-nil, All-cons, All-head, All-tail, All-weaker}
use Rattle.cm_base.specs.declared.number.Oid.{Oid}
use Rattle.cm_base.specs.declared.object.Object.{Object}
use Rattle.cm_base.specs.declared.filing.Filed.{Filed}
use Rattle.cmis_spec.specs.Repository.{same, parent_in}
use Rattle.cmis_spec.specs.Well.{Apart}
use Rattle.cmis_laws.proofs.Lists.{by_test, find_none, none_some, some_eq, same_eq, same_refl, differ, count_cons}

-- what passes p among all is, seen, what passes q among the seen
pub filter_seen : {A B : Type 0} (f : A → B) (ok p : A → Bool) (q : B → Bool) (xs : List A) → ((x : A) → ok x ≡ false → p x ≡ false) → All (λ x. ok x ≡ true → p x ≡ q (f x)) xs
    → map f (filter p xs) ≡ filter q (map f (filter ok xs))
filter_seen f ok p q [] hidden clear = refl
filter_seen f ok p q (x ∷ xs) hidden clear =
    let rest = filter_seen f ok p q xs hidden (All-tail (λ x. ok x ≡ true → p x ≡ q (f x)) x xs clear) in
    by_test (ok x)
    (λ e. let same_test : p x ≡ q (f x) = All-head (λ x. ok x ≡ true → p x ≡ q (f x)) x xs clear e in
    by_test (q (f x))
    (λ d. rw (e, same_test, d) (ap (λ ys. f x ∷ ys) rest))
    (λ d. rw (e, same_test, d) rest))
    (λ e. rw (e, hidden x e) rest)

pub find_seen : {A B : Type 0} (f : A → B) (ok p : A → Bool) (q : B → Bool) (xs : List A) → ((x : A) → ok x ≡ false → p x ≡ false) → All (λ x. ok x ≡ true → p x ≡ q (f x)) xs
    → option_map f (find p xs) ≡ find q (map f (filter ok xs))
find_seen f ok p q [] hidden clear = refl
find_seen f ok p q (x ∷ xs) hidden clear =
    let rest = find_seen f ok p q xs hidden (All-tail (λ x. ok x ≡ true → p x ≡ q (f x)) x xs clear) in
    by_test (ok x)
    (λ e. let same_test : p x ≡ q (f x) = All-head (λ x. ok x ≡ true → p x ≡ q (f x)) x xs clear e in
    by_test (q (f x))
    (λ d. rw (e, same_test, d) refl)
    (λ d. rw (e, same_test, d) rest))
    (λ e. rw (e, hidden x e) rest)

-- found, and then tested: with numbers that are apart, found by both at once
pub find_read : (ok : Object → Bool) (xs : List Object) (n : Oid) → Apart (λ x y. x.id.0 < y.id.0) xs
    → option_and_then (λ x. if ok x then Some x else None) (find (λ x. same x.id n) xs) ≡ find (λ x. same x.id n && ok x) xs
find_read ok [] n apart = refl
find_read ok (x ∷ xs) n apart = by_test (same x.id n)
    (λ e. by_test (ok x)
    (λ d. rw (e, d) refl)
    (λ d. rw (e, d) (sym (find_none (λ y. same y.id n && ok y) xs
    (All-weaker (λ y. x.id.0 < y.id.0) (λ y. same y.id n && ok y ≡ false)
    (λ y l. rw (differ y.id n (λ k. let m : x.id.0 ≡ y.id.0 = ap (λ i. i.0) (same_eq x.id n e ∙ sym k) in omega (arith, l, m))) refl) xs apart.0)))))
    (λ e. rw e (find_read ok xs n apart.1))

-- ---- numbers of what passes

none_after : (q : Object → Bool) (f : Oid) (xs : List Object) → All (λ z. same z.id f ≡ false) xs → list_any (λ g. same g f) (map (λ y. y.id) (filter q xs)) ≡ false
none_after q f [] h = refl
none_after q f (x ∷ xs) h =
    let rest = none_after q f xs (All-tail (λ z. same z.id f ≡ false) x xs h) in
    by_test (q x)
    (λ d. rw d (rw (All-head (λ z. same z.id f ≡ false) x xs h) rest))
    (λ d. rw d rest)

-- a number is among those of what passes where the object that has it passes
pub any_numbered : (q : Object → Bool) (f : Oid) (xs : List Object) → Apart (λ x y. x.id.0 < y.id.0) xs
    → list_any (λ g. same g f) (map (λ y. y.id) (filter q xs)) ≡ unwrap_or (option_map q (find (λ y. same y.id f) xs)) false
any_numbered q f [] a = refl
any_numbered q f (x ∷ xs) a = by_test (same x.id f)
    (λ e. by_test (q x)
    (λ d. rw (d, e) (sym d))
    (λ d. rw (d, e) (none_after q f xs (All-weaker (λ y. x.id.0 < y.id.0) (λ z. same z.id f ≡ false)
    (λ z l. differ z.id f (λ k. let m : x.id.0 ≡ z.id.0 = ap (λ i. i.0) (same_eq x.id f e ∙ sym k) in omega (arith, l, m))) xs a.0) ∙ sym d)))
    (λ e. by_test (q x)
    (λ d. rw (d, e) (any_numbered q f xs a.1))
    (λ d. rw (d, e) (any_numbered q f xs a.1)))

-- ---- the one parent

same_sym : (a b : Oid) → same a b ≡ same b a
same_sym a b = by_test (same b a)
    (λ e. rw e (subst (λ c. same a c ≡ true) (sym (same_eq b a e)) (same_refl a)))
    (λ e. rw e (differ a b (λ k. both_ways (same b a) e (subst (λ c. same c a ≡ true) k (same_refl a)))))

none_counted : {A : Type 0} (p q : A → Bool) (xs : List A) → count_by p xs ≤ 0 → list_any (λ x. q x && p x) xs ≡ false
none_counted p q [] l = refl
none_counted p q (x ∷ xs) l = by_test (p x)
    (λ e. let c : count_by p (x ∷ xs) ≡ 1 + count_by p xs = count_cons p x xs ∙ rw e refl in absurd (omega (arith, l, c)))
    (λ e. let c : count_by p (x ∷ xs) ≡ 0 + count_by p xs = count_cons p x xs ∙ rw e refl in
    rw e (no_more (q x) (none_counted p q xs (omega (arith, l, c)))))
  where
    no_more : (a : Bool) {b : Bool} → b ≡ false → a && false || b ≡ false
    no_more true h = h
    no_more false h = h

-- what is filed once is filed in its parent alone
pub filed_in : (h f g : Oid) (ps : List Filed) → count_by (λ p. same p.child f) ps ≤ 1 → parent_in ps f ≡ Some g → list_any (λ p. same p.folder h && same p.child f) ps ≡ same h g
filed_in h f g [] l e = absurd (none_some g e)
filed_in h f g (p ∷ ps) l e = by_test (same p.child f)
    (λ d.
    let c : count_by (λ p. same p.child f) (p ∷ ps) ≡ 1 + count_by (λ p. same p.child f) ps = count_cons (λ p. same p.child f) p ps ∙ rw d refl in
    let at : p.folder ≡ g = some_eq p.folder g (rw d at e) in
    let rest : list_any (λ p. same p.folder h && same p.child f) ps ≡ false = none_counted (λ p. same p.child f) (λ p. same p.folder h) ps (omega (arith, l, c)) in
    rw (d, rest) (one_less (same p.folder h) ∙ (ap (λ m. same m h) at ∙ same_sym g h)))
    (λ d.
    let c : count_by (λ p. same p.child f) (p ∷ ps) ≡ 0 + count_by (λ p. same p.child f) ps = count_cons (λ p. same p.child f) p ps ∙ rw d refl in
    rw d (no_more (same p.folder h) (filed_in h f g ps (omega (arith, l, c)) (rw d at e))))
  where
    one_less : (a : Bool) → a && true || false ≡ a
    one_less true = refl
    one_less false = refl

    no_more : (a : Bool) {b c : Bool} → b ≡ c → a && false || b ≡ c
    no_more true h = h
    no_more false h = h

-- ---- two lists seen alike

pub same_items : {A B : Type 0} (f g : A → B) (xs : List A) → map f xs ≡ map g xs → All (λ x. f x ≡ g x) xs
same_items f g [] e = All-nil (λ x. f x ≡ g x)
same_items f g (x ∷ xs) e = All-cons (λ x. f x ≡ g x) x xs (ap (first_or (f x)) e) (same_items f g xs (ap rest_of e))
  where
    first_or : {B : Type 0} → B → List B → B
    first_or d [] = d
    first_or d (y ∷ ys) = y

    rest_of : {B : Type 0} → List B → List B
    rest_of [] = []
    rest_of (y ∷ ys) = ys

pub map_same : {A B : Type 0} (f g : A → B) (xs : List A) → All (λ x. f x ≡ g x) xs → map f xs ≡ map g xs
map_same f g [] h = refl
map_same f g (x ∷ xs) h = rw (All-head (λ x. f x ≡ g x) x xs h) (ap (λ ys. g x ∷ ys) (map_same f g xs (All-tail (λ x. f x ≡ g x) x xs h)))
