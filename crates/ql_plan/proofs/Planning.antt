-- What is planned has every row, and is as short as the smallest set.
use Rattle.std.proofs.Common.{◌≡◌, ◌∙◌, ℕ, ◌<◌, ◌≤◌, Bool, List, [], ◌∷◌, length, map, refl, ap, arith}
use Rattle.std.specs.Prelude.{◌&&◌, nat_lt, min, filter, fold, All}
use Rattle.std.proofs.lemmas.List.Elements.{All-head, All-tail}
use Rattle.std.proofs.lemmas.Bool.{ltb-true, ltb-false}
use Rattle.cm_base.specs.declared.number.Oid.{Oid}
use Rattle.cm_base.specs.declared.object.Object.{Object}
use Rattle.cmis_spec.specs.Repository.{Repository}
use Rattle.cmis_spec.specs.Well.{IsWellFormed}
use Rattle.cmis_laws.proofs.Lists.{by_test}
use Rattle.ql_bind.specs.declared.bound.Bound.{Bound}
use Rattle.row_store.specs.Rows.{is_of_types, of_types, numbers}
use Rattle.ql_plan.specs.declared.key.Key.{Key}
use Rattle.ql_plan.specs.Candidates.{is_in_set, set_of, keys_by, least_length, fetch_bound}
use Rattle.ql_plan.specs.Planned.{IsKeyBy, HasAll, members_of, shorter, planned_by, planned}
use Rattle.ql_plan.proofs.Sets.{members_are, members_all, types_all}

-- ---- lengths

length_numbers : (xs : List Object) → length (numbers xs) ≡ length xs
length_numbers [] = refl
length_numbers (x ∷ xs) = let rest : length (numbers xs) ≡ length xs = length_numbers xs in omega (arith, rest)

fewer_left : {A : Type 0} (p q : A → Bool) (xs : List A) → length (filter (λ x. p x && q x) xs) ≤ length (filter p xs)
fewer_left p q [] = omega arith
fewer_left p q (x ∷ xs) = by_test (p x)
    (λ e. by_test (q x)
    (λ d. rw (e, d) (omega (arith, fewer_left p q xs)))
    (λ d. rw (e, d) (omega (arith, fewer_left p q xs))))
    (λ e. rw e (fewer_left p q xs))

fewer_right : {A : Type 0} (p q : A → Bool) (xs : List A) → length (filter (λ x. p x && q x) xs) ≤ length (filter q xs)
fewer_right p q [] = omega arith
fewer_right p q (x ∷ xs) = by_test (p x)
    (λ e. by_test (q x)
    (λ d. rw (e, d) (omega (arith, fewer_right p q xs)))
    (λ d. rw (e, d) (fewer_right p q xs)))
    (λ e. by_test (q x)
    (λ d. rw (e, d) (omega (arith, fewer_right p q xs)))
    (λ d. rw (e, d) (fewer_right p q xs)))

few_members : (r : Repository) (kinds : List (List ℕ)) (k : Key) → IsWellFormed r → length (members_of r kinds k) ≤ length (set_of r k)
few_members r kinds k w =
    let members : length (members_of r kinds k) ≡ length (filter (λ x. is_in_set r k x && is_of_types kinds x) r.objects) = ap length (members_are r kinds k w) ∙ length_numbers (filter (λ x. is_in_set r k x && is_of_types kinds x) r.objects) in
    let set : length (set_of r k) ≡ length (filter (is_in_set r k) r.objects) = length_numbers (filter (is_in_set r k) r.objects) in
    omega (arith, members, set, fewer_left (is_in_set r k) (is_of_types kinds) r.objects)

few_typed : (r : Repository) (kinds : List (List ℕ)) (k : Key) → IsWellFormed r → length (members_of r kinds k) ≤ length (of_types r kinds)
few_typed r kinds k w =
    let members : length (members_of r kinds k) ≡ length (filter (λ x. is_in_set r k x && is_of_types kinds x) r.objects) = ap length (members_are r kinds k w) ∙ length_numbers (filter (λ x. is_in_set r k x && is_of_types kinds x) r.objects) in
    let typed : length (of_types r kinds) ≡ length (filter (is_of_types kinds) r.objects) = length_numbers (filter (is_of_types kinds) r.objects) in
    omega (arith, members, typed, fewer_right (is_in_set r k) (is_of_types kinds) r.objects)

shorter_le : (best other : List Oid) (a b : ℕ) → length best ≤ a → length other ≤ b → length (shorter best other) ≤ min a b
shorter_le best other a b l m = by_test (nat_lt (length other) (length best))
    (λ e. let lt : length other < length best = ltb-true (length other) (length best) e in rw e (omega (arith, l, m, lt)))
    (λ e. let ge : length best ≤ length other = ltb-false (length other) (length best) e in rw e (omega (arith, l, m, ge)))

folded_le : (r : Repository) (kinds : List (List ℕ)) (ks : List Key) (best : List Oid) (least : ℕ) → IsWellFormed r → length best ≤ least
    → length (fold (λ best other. shorter best (members_of r kinds other)) best ks) ≤ least_length least (map (set_of r) ks)
folded_le r kinds [] best least w l = l
folded_le r kinds (k ∷ ks) best least w l =
    folded_le r kinds ks (shorter best (members_of r kinds k)) (min least (length (set_of r k))) w (shorter_le best (members_of r kinds k) least (length (set_of r k)) l (few_members r kinds k w))

planned_by_le : (r : Repository) (kinds : List (List ℕ)) (ks : List Key) → IsWellFormed r → length (planned_by r kinds ks) ≤ least_length (length (of_types r kinds)) (map (set_of r) ks)
planned_by_le r kinds [] w = omega arith
planned_by_le r kinds (k ∷ ks) w =
    folded_le r kinds ks (members_of r kinds k) (min (length (of_types r kinds)) (length (set_of r k))) w (omega (arith, few_members r kinds k w, few_typed r kinds k w))

pub planned_few : (r : Repository) (bound : Bound) → IsWellFormed r → length (planned r bound) ≤ fetch_bound r bound
planned_few r bound w = planned_by_le r bound.kinds (keys_by bound.filter) w

-- ---- rows

shorter_all : (r : Repository) (bound : Bound) (best other : List Oid) → HasAll r bound best → HasAll r bound other → HasAll r bound (shorter best other)
shorter_all r bound best other h k = by_test (nat_lt (length other) (length best)) (λ e. rw e k) (λ e. rw e h)

folded_all : (r : Repository) (bound : Bound) (ks : List Key) (best : List Oid) → IsWellFormed r → All (IsKeyBy bound.filter) ks → HasAll r bound best
    → HasAll r bound (fold (λ best other. shorter best (members_of r bound.kinds other)) best ks)
folded_all r bound [] best w all h = h
folded_all r bound (k ∷ ks) best w all h =
    folded_all r bound ks (shorter best (members_of r bound.kinds k)) w (All-tail (IsKeyBy bound.filter) k ks all)
    (shorter_all r bound best (members_of r bound.kinds k) h (members_all r bound k w (All-head (IsKeyBy bound.filter) k ks all)))

pub planned_by_all : (r : Repository) (bound : Bound) (ks : List Key) → IsWellFormed r → All (IsKeyBy bound.filter) ks → HasAll r bound (planned_by r bound.kinds ks)
planned_by_all r bound [] w all = types_all r bound w
planned_by_all r bound (k ∷ ks) w all =
    folded_all r bound ks (members_of r bound.kinds k) w (All-tail (IsKeyBy bound.filter) k ks all) (members_all r bound k w (All-head (IsKeyBy bound.filter) k ks all))
