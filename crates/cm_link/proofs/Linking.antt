-- What the indexes tell of the pairs, and what changes make of them.
use Rattle.std.proofs.Common.{◌≡◌, ℕ, ◌<◌, ◌==◌, ◌&&◌, ◌||◌, Bool, true, false, not, cond, List, [], ◌∷◌, map, filter, if◌then◌else◌, Option, None, Some, is_some, option_map, option_and_then, unwrap_or, nat_lt, length, sym, ap, subst, refl, ◌∙◌, arith, T}
use Rattle.std.specs.List.{list_any}
use Rattle.core.specs.Ordering.{nat_cmp, eq_by_cmp}
use Rattle.core.specs.Cmp.{unsigned_tied}
use Rattle.core.specs.FinMap.Entries.{find, is_sorted}
use Rattle.cm_base.specs.declared.number.Oid.{Oid}
use Rattle.cm_base.specs.declared.filing.Applied.{Applied}
use Rattle.cmis_spec.specs.Repository.{same}
use Rattle.cm_map.specs.Buckets.{find_in}
use Rattle.place_laws.specs.Places.{placed, value_at, but}
use Rattle.place_laws.proofs.Placing.{by_test, find_under, bucket_is, any_placed, Turns, tells_changed}
use Rattle.place_laws.proofs.Clearing.{has_place, has_place_where, all_values, any_value}
use Rattle.cm_link.specs.Linked.{object_key, policy_key, IsIndexed}

-- a pair that comes or goes keeps the indexes
pub indexed_changed : (es fs : List (ℕ × Applied)) (n : ℕ) (a : Applied) (now : Option Applied) (objects more policies fewer : List (ℕ × List (ℕ × Oid)))
    → IsIndexed es objects policies → Turns a (find nat_cmp n es) now → T (is_sorted nat_cmp fs)
    → ((p : ℕ) → find nat_cmp p fs ≡ cond (p == n) now (find nat_cmp p es))
    → ((o p : ℕ) → find_in nat_cmp nat_cmp more o p ≡ (if eq_by_cmp nat_cmp o a.object.0 && eq_by_cmp nat_cmp p n then option_map (λ d. d.policy) now else find_in nat_cmp nat_cmp objects o p))
    → ((o p : ℕ) → find_in nat_cmp nat_cmp fewer o p ≡ (if eq_by_cmp nat_cmp o a.policy.0 && eq_by_cmp nat_cmp p n then option_map (λ d. d.object) now else find_in nat_cmp nat_cmp policies o p))
    → IsIndexed fs more fewer
indexed_changed es fs n a now objects more policies fewer w turns sorted found o p = record {
  sorted = sorted;
  objects = tells_changed nat_cmp object_key (λ d. d.policy) (λ p. find nat_cmp p es) (λ p. find nat_cmp p fs) n a now (find_in nat_cmp nat_cmp objects) (find_in nat_cmp nat_cmp more) w.objects turns found o;
  policies = tells_changed nat_cmp policy_key (λ d. d.object) (λ p. find nat_cmp p es) (λ p. find nat_cmp p fs) n a now (find_in nat_cmp nat_cmp policies) (find_in nat_cmp nat_cmp fewer) w.policies turns found p;
}

flip : (a b : ℕ) → (b == a) ≡ (a == b)
flip a b = grind arith

tied_as : (o n : Oid) → eq_by_cmp nat_cmp o.0 n.0 ≡ same n o
tied_as o n = unsigned_tied o.0 n.0 ∙ flip n.0 o.0

-- the policies of an object, by their places
pub policies_at : (es : List (ℕ × Applied)) (objects policies : List (ℕ × List (ℕ × Oid))) → IsIndexed es objects policies
    → (n : Oid) (o : Option (List (ℕ × Oid))) → o ≡ find nat_cmp n.0 objects → T (is_sorted nat_cmp (unwrap_or o [])) → unwrap_or o [] ≡ placed nat_cmp object_key (λ a. a.policy) n.0 es
policies_at es objects policies w n o e rising =
    ap (λ m. unwrap_or m []) e
    ∙ bucket_is nat_cmp object_key (λ a. a.policy) n.0 es objects w.sorted (subst (λ m. T (is_sorted nat_cmp (unwrap_or m []))) e rising) (w.objects n.0)

-- the objects of a policy, by their places
pub objects_at : (es : List (ℕ × Applied)) (objects policies : List (ℕ × List (ℕ × Oid))) → IsIndexed es objects policies
    → (n : Oid) (o : Option (List (ℕ × Oid))) → o ≡ find nat_cmp n.0 policies → T (is_sorted nat_cmp (unwrap_or o [])) → unwrap_or o [] ≡ placed nat_cmp policy_key (λ a. a.object) n.0 es
objects_at es objects policies w n o e rising =
    ap (λ m. unwrap_or m []) e
    ∙ bucket_is nat_cmp policy_key (λ a. a.object) n.0 es policies w.sorted (subst (λ m. T (is_sorted nat_cmp (unwrap_or m []))) e rising) (w.policies n.0)

and_turned : (a b : Bool) → (a && b) ≡ (b && a)
and_turned true true = refl
and_turned true false = refl
and_turned false true = refl
and_turned false false = refl

any_by : {A : Type 0} (p q : A → Bool) → ((a : A) → p a ≡ q a) → (xs : List A) → list_any p xs ≡ list_any q xs
any_by p q e [] = refl
any_by p q e (x ∷ xs) = λ i. e x i || any_by p q e xs i

-- the policy is applied to the object
pub applied_same : (policy object : Oid) (es : List (ℕ × Applied)) → list_any (λ e. same e.1 policy) (placed nat_cmp object_key (λ a. a.policy) object.0 es) ≡ list_any (λ a. same a.policy policy && same a.object object) (map (λ e. e.1) es)
applied_same policy object es =
    any_placed nat_cmp object_key (λ a. a.policy) (λ x. same x policy) object.0 es
    ∙ any_by (λ (a : Applied). eq_by_cmp nat_cmp object.0 a.object.0 && same a.policy policy) (λ a. same a.policy policy && same a.object object)
    (λ a. and_turned (eq_by_cmp nat_cmp object.0 a.object.0) (same a.policy policy) ∙ ap (λ b. same a.policy policy && b) (tied_as object a.object)) (map (λ e. e.1) es)

-- the policy is applied to an object
pub used_same : (policy : Oid) (es : List (ℕ × Applied)) → nat_lt 0 (length (placed nat_cmp policy_key (λ a. a.object) policy.0 es)) ≡ list_any (λ a. same a.policy policy) (map (λ e. e.1) es)
used_same policy es = any_value nat_cmp policy_key (λ a. a.object) policy.0 (λ a. same a.policy policy) (λ a. tied_as policy a.policy) es

-- the policies of the object
pub policies_same : (object : Oid) (es : List (ℕ × Applied)) → map (λ e. e.1) (placed nat_cmp object_key (λ a. a.policy) object.0 es) ≡ map (λ a. a.policy) (filter (λ a. same a.object object) (map (λ e. e.1) es))
policies_same object es = all_values nat_cmp object_key (λ a. a.policy) object.0 (λ a. same a.object object) (λ a. tied_as object a.object) es

-- ---- what is left where the places of an object are cleared

pub policy_left : (policy object : Oid) (es fs : List (ℕ × Applied)) (objects policies : List (ℕ × List (ℕ × Oid))) → IsIndexed es objects policies
    → (o : Option (List (ℕ × Oid))) → o ≡ find nat_cmp object.0 objects → T (is_sorted nat_cmp (unwrap_or o []))
    → ((p : ℕ) → find nat_cmp p fs ≡ cond (list_any (λ q. p == q) (map (λ e. e.0) (filter (λ e. same e.1 policy) (unwrap_or o [])))) None (find nat_cmp p es))
    → (p : ℕ) → find nat_cmp p fs ≡ option_and_then (but (λ a. same a.policy policy && same a.object object)) (find nat_cmp p es)
policy_left policy object es fs objects policies w o at rising found p =
    found p
    ∙ (ap (λ b. cond b None (find nat_cmp p es))
    (has_place_where (λ x. same x policy) p (unwrap_or o []) rising
    ∙ ap (λ m. unwrap_or (option_map (λ x. same x policy) m) false) (ap (λ m. find nat_cmp p (unwrap_or m [])) at ∙ (find_under nat_cmp objects object.0 p ∙ w.objects object.0 p)))
    ∙ by (find nat_cmp p es))
  where
    by : (o : Option Applied) → cond (unwrap_or (option_map (λ x. same x policy) (value_at nat_cmp object_key (λ a. a.policy) object.0 o)) false) None o ≡ option_and_then (but (λ a. same a.policy policy && same a.object object)) o
    by None = refl
    by (Some a) = by_test (same a.object object)
        (λ t. by_test (same a.policy policy)
        (λ u. rw (tied_as object a.object, t, u) refl)
        (λ u. rw (tied_as object a.object, t, u) refl))
        (λ t. by_test (same a.policy policy)
        (λ u. rw (tied_as object a.object, t, u) refl)
        (λ u. rw (tied_as object a.object, t, u) refl))

pub object_left : (object : Oid) (es fs : List (ℕ × Applied)) (objects policies : List (ℕ × List (ℕ × Oid))) → IsIndexed es objects policies
    → (o : Option (List (ℕ × Oid))) → o ≡ find nat_cmp object.0 objects
    → ((p : ℕ) → find nat_cmp p fs ≡ cond (list_any (λ q. p == q) (map (λ e. e.0) (unwrap_or o []))) None (find nat_cmp p es))
    → (p : ℕ) → find nat_cmp p fs ≡ option_and_then (but (λ a. same a.object object)) (find nat_cmp p es)
object_left object es fs objects policies w o at found p =
    found p
    ∙ (ap (λ b. cond b None (find nat_cmp p es))
    (has_place p (unwrap_or o [])
    ∙ ap is_some (ap (λ m. find nat_cmp p (unwrap_or m [])) at ∙ (find_under nat_cmp objects object.0 p ∙ w.objects object.0 p)))
    ∙ by (find nat_cmp p es))
  where
    by : (o : Option Applied) → cond (is_some (value_at nat_cmp object_key (λ a. a.policy) object.0 o)) None o ≡ option_and_then (but (λ a. same a.object object)) o
    by None = refl
    by (Some a) = by_test (same a.object object)
        (λ t. rw (tied_as object a.object, t) refl)
        (λ t. rw (tied_as object a.object, t) refl)
