-- The pairs of a policy and an object by their places, and their indexes.
use Rattle.std.specs.Prelude.{◌≡◌, ℕ, ◌≤◌, List, None, T}
use Rattle.core.specs.Ordering.{nat_cmp}
use Rattle.core.specs.FinMap.Entries.{find, is_sorted}
use Rattle.cm_base.specs.declared.number.Oid.{Oid}
use Rattle.cm_base.specs.declared.filing.Applied.{Applied}
use Rattle.place_laws.specs.Places.{Tells}

abbrev pub object_key : Applied → ℕ
object_key a = a.object.0

abbrev pub policy_key : Applied → ℕ
policy_key a = a.policy.0

-- the indexes tell what the pairs are
pub record IsIndexed (pairs : List (ℕ × Applied)) (by_object by_policy : List (ℕ × List (ℕ × Oid))) : Type 0 where
  pub sorted : T (is_sorted nat_cmp pairs)
  -- by object: its policies
  pub objects : Tells object_key (λ a. a.policy) (λ p. find nat_cmp p pairs) by_object
  -- by policy: its objects
  pub policies : Tells policy_key (λ a. a.object) (λ p. find nat_cmp p pairs) by_policy

pub record IsLinks (pairs : List (ℕ × Applied)) (next : ℕ) (by_object by_policy : List (ℕ × List (ℕ × Oid))) : Type 0 where
  -- places are below the next one
  pub below : (p : ℕ) → next ≤ p → find nat_cmp p pairs ≡ None
  pub indexed : IsIndexed pairs by_object by_policy
