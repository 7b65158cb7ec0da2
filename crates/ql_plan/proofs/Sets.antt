-- The sets of the planner as filters over the objects.
use Rattle.std.proofs.Common.{◌≡◌, ◌∙◌, ℕ, ◌<◌, ◌^◌, Bool, true, false, List, [], ◌∷◌, map, refl, sym, ap, subst, arith, true≢false, inl, inr}
use Rattle.std.specs.Prelude.{◌&&◌, ◌||◌, not, ◌⊎◌, filter, find, All, Option, Some, None, unwrap_or, option_map, is_some, codes, decimal}
use Rattle.std.specs.List.{filter_map}
use Rattle.std.specs.Cmp.{first_so, second_so}
use Rattle.std.proofs.lemmas.List.Elements.{All-nil, All-cons, All-head, All-tail, All-weaker, All-filter}
use Rattle.cm_base.specs.declared.number.Oid.{Oid}
use Rattle.cm_base.specs.declared.object.Object.{Object}
use Rattle.cm_base.specs.declared.value.Value.{Value}
use Rattle.cm_base.specs.declared.value.Value.TheVariants.{Unset, One}
use Rattle.cm_base.specs.declared.value.Scalar.TheVariants.{Words}
use Rattle.cm_base.specs.Limits.{greatest_limit}
use Rattle.cm_types.specs.Types.{props_of}
use Rattle.cm_types.specs.Properties.{value_in, is_set}
use Rattle.cmis_spec.specs.Repository.{Repository, same, object_at, owner_of, entry_of, is_filed}
use Rattle.cmis_spec.specs.Access.{reads, stands, oid_named}
use Rattle.cmis_spec.specs.Well.{Apart, IsWellFormed}
use Rattle.cmis_laws.proofs.Lists.{by_test, same_eq, same_refl, differ, find_yes, find_no, all_zip}
use Rattle.cmis_laws.proofs.Entries.{all_there}
use Rattle.cm_see.specs.Shown.{property_value}
use Rattle.ql_bind.specs.declared.bound.Bound.{Bound}
use Rattle.ql_eval.specs.declared.row.Row.{Row}
use Rattle.ql_eval.specs.Conditions.{keeps}
use Rattle.ql_eval.specs.Order.{IsEachOnce}
use Rattle.row_store.specs.Rows.{is_of_types, is_row, is_listed, row_of, row_at, row_values, numbers, of_types, has_types, is_filed_in}
use Rattle.ql_plan.specs.declared.key.Key.{Key}
use Rattle.ql_plan.specs.declared.key.Key.TheVariants as keys
use Rattle.ql_plan.specs.Found.{rows_of}
use Rattle.ql_plan.specs.Candidates.{is_in_set}
use Rattle.ql_plan.specs.Planned.{Fits, IsKeyBy, HasAll, members_of}
use Rattle.ql_plan.proofs.Named.{named_decimal}
use Rattle.ql_plan.proofs.Rowing.{value_of_row, rows_at, filed_by_parents}

-- ---- filters

none_passes : {A : Type 0} (p q : A → Bool) (xs : List A) → All (λ x. p x ≡ false) xs → filter (λ x. p x && q x) xs ≡ []
none_passes p q [] h = refl
none_passes p q (x ∷ xs) h = rw (All-head (λ x. p x ≡ false) x xs h) (none_passes p q xs (All-tail (λ x. p x ≡ false) x xs h))

filter_both : {A : Type 0} (p q : A → Bool) (xs : List A) → filter q (filter p xs) ≡ filter (λ x. p x && q x) xs
filter_both p q [] = refl
filter_both p q (x ∷ xs) = by_test (p x)
    (λ e. by_test (q x)
    (λ d. rw (e, d) (ap (λ ys. x ∷ ys) (filter_both p q xs)))
    (λ d. rw (e, d) (filter_both p q xs)))
    (λ e. rw e (filter_both p q xs))

-- what is kept of all is kept of those that pass a test that all that is kept passes
kept_among : {A B : Type 0} (f : A → B) (keep : B → Bool) (ok typed p : A → Bool) (xs : List A)
    → All (λ x. ok x ≡ true → keep (f x) ≡ true → p x ≡ true) xs
    → filter keep (map f (filter ok (filter (λ x. p x && typed x) xs))) ≡ filter keep (map f (filter (λ x. typed x && ok x) xs))
kept_among f keep ok typed p [] h = refl
kept_among f keep ok typed p (x ∷ xs) h =
    let rest = kept_among f keep ok typed p xs (All-tail (λ x. ok x ≡ true → keep (f x) ≡ true → p x ≡ true) x xs h) in
    let here : ok x ≡ true → keep (f x) ≡ true → p x ≡ true = All-head (λ x. ok x ≡ true → keep (f x) ≡ true → p x ≡ true) x xs h in
    by_test (p x)
    (λ a. by_test (typed x)
    (λ b. by_test (ok x)
    (λ c. by_test (keep (f x))
    (λ d. rw (a, b, c, d) (ap (λ ys. f x ∷ ys) rest))
    (λ d. rw (a, b, c, d) rest))
    (λ c. rw (a, b, c) rest))
    (λ b. rw (a, b) rest))
    (λ a. by_test (typed x)
    (λ b. by_test (ok x)
    (λ c. by_test (keep (f x))
    (λ d. absurd (true≢false (sym (here c d) ∙ a)))
    (λ d. rw (a, b, c, d) rest))
    (λ c. rw (a, b, c) rest))
    (λ b. rw (a, b) rest))

-- ---- numbers and objects

typed_numbers : (r : Repository) (kinds : List (List ℕ)) (xs : List Object) → All (λ x. object_at r x.id ≡ Some x) xs → filter (has_types r kinds) (numbers xs) ≡ numbers (filter (is_of_types kinds) xs)
typed_numbers r kinds [] there = refl
typed_numbers r kinds (x ∷ xs) there =
    let at : object_at r x.id ≡ Some x = All-head (λ x. object_at r x.id ≡ Some x) x xs there in
    let rest = typed_numbers r kinds xs (All-tail (λ x. object_at r x.id ≡ Some x) x xs there) in
    by_test (is_of_types kinds x)
    (λ e. rw (at, e) (ap (λ ys. x.id ∷ ys) rest))
    (λ e. rw (at, e) rest)

others_differ : (x : Object) (n : Oid) (xs : List Object) → x.id ≡ n → All (λ y. x.id.0 < y.id.0) xs → All (λ y. same y.id n ≡ false) xs
others_differ x n xs at above = All-weaker (λ y. x.id.0 < y.id.0) (λ y. same y.id n ≡ false)
    (λ y l. differ y.id n (λ k. let m : x.id.0 ≡ y.id.0 = ap (λ i. i.0) (at ∙ sym k) in omega (arith, l, m))) xs above

-- the number of an object, by a test of the object that has it
one_numbered : (typed : Object → Bool) (n : Oid) (xs : List Object) → Apart (λ x y. x.id.0 < y.id.0) xs
    → filter (λ m. unwrap_or (option_map typed (find (λ x. same x.id m) xs)) false) (n ∷ []) ≡ numbers (filter (λ x. same x.id n && typed x) xs)
one_numbered typed n [] apart = refl
one_numbered typed n (x ∷ xs) apart = by_test (same x.id n)
    (λ e.
    let at : x.id ≡ n = same_eq x.id n e in
    let none : filter (λ y. same y.id n && typed y) xs ≡ [] = none_passes (λ y. same y.id n) typed xs (others_differ x n xs at apart.0) in
    by_test (typed x)
    (λ d. rw (e, d, none) (ap (λ m. m ∷ []) (sym at)))
    (λ d. rw (e, d, none) refl))
    (λ e. rw e (one_numbered typed n xs apart.1))

there_all : (r : Repository) → IsWellFormed r → All (λ x. object_at r x.id ≡ Some x) r.objects
there_all r w = all_there r.objects w.numbers.0

all_false : {A : Type 0} (p : A → Bool) (xs : List A) → ((x : A) → p x ≡ false) → All (λ x. p x ≡ false) xs
all_false p [] h = All-nil (λ x. p x ≡ false)
all_false p (x ∷ xs) h = All-cons (λ x. p x ≡ false) x xs (h x) (all_false p xs h)

-- the members of a key are the objects of the row types in its set
pub members_are : (r : Repository) (kinds : List (List ℕ)) (k : Key) → IsWellFormed r → members_of r kinds k ≡ numbers (filter (λ x. is_in_set r k x && is_of_types kinds x) r.objects)
members_are r kinds (keys.Object None) w = sym (ap numbers (none_passes (λ x. false) (is_of_types kinds) r.objects (all_false (λ x. false) r.objects (λ x. refl))))
members_are r kinds (keys.Object (Some n)) w = one_numbered (is_of_types kinds) n r.objects w.numbers.0
members_are r kinds (keys.Folder None) w = sym (ap numbers (none_passes (λ x. false) (is_of_types kinds) r.objects (all_false (λ x. false) r.objects (λ x. refl))))
members_are r kinds (keys.Folder (Some f)) w =
    typed_numbers r kinds (filter (is_filed_in r f) r.objects) (All-filter (is_filed_in r f) (λ x. object_at r x.id ≡ Some x) r.objects (there_all r w))
    ∙ ap numbers (filter_both (is_filed_in r f) (is_of_types kinds) r.objects)

-- ---- what is kept fits its keys

unset_one : (v : Value) (id : List ℕ) → v ≡ Unset → v ≡ One (Words id) → ⊥
unset_one v id e h = absurd (true≢false (ap is_set (sym h ∙ e)))

one_words : (id name : List ℕ) → One (Words id) ≡ One (Words name) → id ≡ name
one_words id name e = ap text_or e
  where
    text_or : Value → List ℕ
    text_or (One (Words t)) = t
    text_or _ = []

fits_set : (r : Repository) (u : List ℕ) (versions : Bool) (k : Key) (x : Object) → x.id.0 < 2 ^ 64 → is_row r u versions x ≡ true → Fits k (row_of r u x) → is_in_set r k x ≡ true
fits_set r u versions (keys.Object o) x small row fits = by (value_of_row r u x (codes "cmis:objectId") (filter (λ d. d.queryable) (props_of r.types x.kind x.secondary)))
  where
    named : oid_named (decimal x.id.0) ≡ Some x.id
    named = named_decimal x.id small

    same_object : (p : Option Oid) → p ≡ Some x.id → is_in_set r (keys.Object p) x ≡ true
    same_object p e = subst (λ q. is_in_set r (keys.Object q) x ≡ true) (sym e) (same_refl x.id)

    by : (value_in (row_values r u x) (codes "cmis:objectId") ≡ Unset) ⊎ (value_in (row_values r u x) (codes "cmis:objectId") ≡ property_value r u x (codes "cmis:objectId")) → is_in_set r (keys.Object o) x ≡ true
    by (inl e) = absurd (unset_one (value_in (row_values r u x) (codes "cmis:objectId")) fits.0 e fits.1)
    by (inr e) =
        let same_text : fits.0 ≡ decimal x.id.0 = one_words fits.0 (decimal x.id.0) (sym fits.1 ∙ e) in
        same_object o (sym fits.2 ∙ (ap oid_named same_text ∙ named))
fits_set r u versions (keys.Folder None) x small row fits = absurd fits
fits_set r u versions (keys.Folder (Some f)) x small row fits =
    let filed : is_filed r f (entry_of x) ≡ true = filed_by_parents r u (entry_of x) f r.objects fits in
    let listed : is_listed r versions x ≡ true = second_so (reads r u x) (is_listed r versions x) row in
    let own : not (is_some (owner_of r x)) ≡ true = first_so (not (is_some (owner_of r x))) (versions || stands r x) listed in
    rw (filed, own) refl

small_numbers : (r : Repository) → IsWellFormed r → All (λ x. x.id.0 < 2 ^ 64) r.objects
unfolding greatest_limit
small_numbers r w = All-weaker (λ x. x.id.0 < r.next) (λ x. x.id.0 < 2 ^ 64) (λ x l. omega (arith, l, w.bounds.0, w.bounds.2)) r.objects w.numbers.1

-- ---- every row is among what is chosen

pub members_all : (r : Repository) (bound : Bound) (k : Key) → IsWellFormed r → IsKeyBy bound.filter k → HasAll r bound (members_of r bound.kinds k)
members_all r bound k w key u versions =
    ap (λ ns. filter (keeps bound) (filter_map (row_at r u versions) ns)) (members_are r bound.kinds k w)
    ∙ (ap (filter (keeps bound)) (rows_at r u versions (filter (λ x. is_in_set r k x && is_of_types bound.kinds x) r.objects)
    (All-filter (λ x. is_in_set r k x && is_of_types bound.kinds x) (λ x. object_at r x.id ≡ Some x) r.objects (there_all r w)))
    ∙ kept_among (row_of r u) (keeps bound) (is_row r u versions) (is_of_types bound.kinds) (is_in_set r k) r.objects
    (All-weaker (λ x. x.id.0 < 2 ^ 64) (λ x. is_row r u versions x ≡ true → keeps bound (row_of r u x) ≡ true → is_in_set r k x ≡ true)
    (λ x l ok kept. fits_set r u versions k x l ok (key (row_of r u x) kept)) r.objects (small_numbers r w)))

pub types_all : (r : Repository) (bound : Bound) → IsWellFormed r → HasAll r bound (of_types r bound.kinds)
types_all r bound w u versions =
    ap (filter (keeps bound)) (rows_at r u versions (filter (is_of_types bound.kinds) r.objects)
    (All-filter (is_of_types bound.kinds) (λ x. object_at r x.id ≡ Some x) r.objects (there_all r w))
    ∙ ap (map (row_of r u)) (filter_both (is_of_types bound.kinds) (is_row r u versions) r.objects))

-- ---- each row once

rows_apart : (f : Object → Row) (p : Object → Bool) (xs : List Object) → ((x : Object) → (f x).id ≡ x.id) → Apart (λ x y. x.id.0 < y.id.0) xs → Apart (λ a b. a.id.0 < b.id.0) (map f (filter p xs))
rows_apart f p [] same_id a = tt
rows_apart f p (x ∷ xs) same_id a = by_test (p x)
    (λ e. rw e (above xs a.0, rows_apart f p xs same_id a.1))
    (λ e. rw e (rows_apart f p xs same_id a.1))
  where
    above : (ys : List Object) → All (λ y. x.id.0 < y.id.0) ys → All (λ b. (f x).id.0 < b.id.0) (map f (filter p ys))
    above [] h = All-nil (λ b. (f x).id.0 < b.id.0)
    above (y ∷ ys) h = by_test (p y)
        (λ e. rw e (All-cons (λ b. (f x).id.0 < b.id.0) (f y) (map f (filter p ys)) (rw (same_id x, same_id y) (All-head (λ y. x.id.0 < y.id.0) y ys h)) (above ys (All-tail (λ y. x.id.0 < y.id.0) y ys h))))
        (λ e. rw e (above ys (All-tail (λ y. x.id.0 < y.id.0) y ys h)))

filter_apart : (p : Row → Bool) (xs : List Row) → Apart (λ a b. a.id.0 < b.id.0) xs → Apart (λ a b. a.id.0 < b.id.0) (filter p xs)
filter_apart p [] a = tt
filter_apart p (x ∷ xs) a = by_test (p x)
    (λ e. rw e (All-filter p (λ b. x.id.0 < b.id.0) xs a.0, filter_apart p xs a.1))
    (λ e. rw e (filter_apart p xs a.1))

each_once : (xs : List Row) → Apart (λ a b. a.id.0 < b.id.0) xs → All (λ x. find (λ y. same y.id x.id) xs ≡ Some x) xs
each_once [] a = All-nil (λ x. find (λ y. same y.id x.id) [] ≡ Some x)
each_once (x ∷ xs) a = All-cons (λ z. find (λ y. same y.id z.id) (x ∷ xs) ≡ Some z) x xs (find_yes (λ y. same y.id x.id) x xs (same_refl x.id))
    (all_zip (λ z. x.id.0 < z.id.0) (λ z. find (λ y. same y.id z.id) xs ≡ Some z) (λ z. find (λ y. same y.id z.id) (x ∷ xs) ≡ Some z) xs
    (λ z l e. find_no (λ y. same y.id z.id) x xs (differ x.id z.id (λ k. let m : x.id.0 ≡ z.id.0 = ap (λ i. i.0) k in omega (arith, l, m))) ∙ e) a.0 (each_once xs a.1))

pub rows_once : (r : Repository) (u : List ℕ) (bound : Bound) (versions : Bool) → IsWellFormed r → IsEachOnce (filter (keeps bound) (rows_of r u bound.kinds versions))
rows_once r u bound versions w = each_once (filter (keeps bound) (rows_of r u bound.kinds versions))
    (filter_apart (keeps bound) (rows_of r u bound.kinds versions) (rows_apart (row_of r u) (λ x. is_of_types bound.kinds x && is_row r u versions x) r.objects (λ x. refl) w.numbers.0))
