-- The test of groups decides whether users may have them.
use Rattle.std.specs.Prelude.{◌≡◌, ℕ, ◌<◌, length, Bool, true, false, ◌&&◌, not, List, [], ◌∷◌, All}
use Rattle.std.specs.Bool.{Decides}
use Rattle.std.specs.List.{list_all, list_any}
use Rattle.core.specs.declared.cmp.Ordering.{Ordering}
use Rattle.core.specs.declared.cmp.Ordering.TheVariants.{Less, Equal, Greater}
use Rattle.core.specs.Ordering.{nat_cmp, is_lt}
use Rattle.core.specs.Cmp.Lexicographic.{slice_cmp}
use Rattle.std.proofs.Common.{refl, arith}
use Rattle.std.proofs.lemmas.Bool.{both_ways}
use Rattle.std.proofs.lemmas.Bool.Decides.{Decides-and, Decides-like, Decides-by_and}
use Rattle.cm_base.specs.declared.user.Group.{Group}
use Rattle.cm_base.specs.UserLists.{is_user_name, all_differ}
use Rattle.cmis_spec.specs.Well.{Apart, is_user, IsGroup, HasGroups}
use Rattle.journal_people.specs.Tests.{is_member, may_be_group, rise, has_groups}

-- a list with an item has some
pub some_member : (members : List (List ℕ)) → 0 < length members → list_any (λ m. true) members ≡ true
some_member [] h = absurd (omega (arith, h))
some_member (m ∷ ms) h = refl

-- a test decides that it holds
itself : (b : Bool) → Decides b (b ≡ true)
itself b = (λ h. h, λ h. h)

all_tested : {A : Type 0} (p : A → Bool) (P : A → Type 0) → ((x : A) → Decides (p x) (P x)) → (xs : List A) → Decides (list_all p xs) (All P xs)
all_tested p P each xs = Decides-by_and p P (list_all p) each refl (λ _ _. refl) xs

less_tested : (o : Ordering) → Decides (is_lt o) (o ≡ Less)
less_tested Less = (λ h. refl, λ h. refl)
less_tested Equal = (λ h. absurd (both_ways false refl h), λ h. absurd (equal_less h))
  where
    equal_less : Equal ≡ Less → ⊥
    equal_less h = absurd cc
less_tested Greater = (λ h. absurd (both_ways false refl h), λ h. absurd (greater_less h))
  where
    greater_less : Greater ≡ Less → ⊥
    greater_less h = absurd cc

group_tested : (users : List (List ℕ)) (g : Group) → Decides (may_be_group users g) (IsGroup users g)
group_tested users g =
    let named = is_user_name g.name && not (is_user users g.name) in
    let members = list_all (is_member users) g.members in
    let once = all_differ g.members in
    let some = list_any (λ m. true) g.members in
    let parts = Decides-and (named && members && once) some
    (Decides-and (named && members) once (Decides-and named members (itself named) (all_tested (is_member users) (λ m. is_member users m ≡ true) (λ m. itself (is_member users m)) g.members)) (itself once))
    (itself some) in
    Decides-like (may_be_group users g) (λ x. (x.0.0.0, x.0.0.1, x.0.1, x.1)) (λ x. (((x.0, x.1), x.2), x.3)) parts

rise_tested : (groups : List Group) → Decides (rise groups) (Apart (λ g h. slice_cmp nat_cmp g.name h.name ≡ Less) groups)
rise_tested [] = (λ h. tt, λ h. refl)
rise_tested (g ∷ gs) =
    Decides-and (list_all (λ h. is_lt (slice_cmp nat_cmp g.name h.name)) gs) (rise gs)
    (all_tested (λ (h : Group). is_lt (slice_cmp nat_cmp g.name h.name)) (λ h. slice_cmp nat_cmp g.name h.name ≡ Less) (λ h. less_tested (slice_cmp nat_cmp g.name h.name)) gs)
    (rise_tested gs)

pub groups_decided : (users : List (List ℕ)) (groups : List Group) → Decides (has_groups users groups) (HasGroups users groups)
groups_decided users groups =
    Decides-and (rise groups) (list_all (may_be_group users) groups) (rise_tested groups) (all_tested (may_be_group users) (IsGroup users) (group_tested users) groups)
