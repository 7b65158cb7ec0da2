-- Rows that agree in the properties that a condition names have the same truth.
use Rattle.std.proofs.Common.{◌≡◌, ◌∙◌, ℕ, Bool, true, false, List, refl, sym, ap, subst}
use Rattle.std.specs.Prelude.{◌||◌, Option, Some, None}
use Rattle.cm_types.specs.Properties.{value_in}
use Rattle.cmis_laws.proofs.Kept.{bytes_same}
use Rattle.ql_bind.specs.declared.bound.Condition.{Condition}
use Rattle.ql_bind.specs.declared.bound.Condition.TheOpen.{Condition-F}
use Rattle.ql_bind.specs.declared.bound.Condition.TheViews.{roll-Condition}
use Rattle.ql_bind.specs.declared.bound.Condition.TheFolds.{map-Condition, fold-roll-Condition, ind-Condition}
use Rattle.ql_bind.specs.declared.bound.Bound.{Bound}
use Rattle.ql_eval.specs.declared.row.Row.{Row}
use Rattle.ql_eval.specs.declared.truth.Truth.{Truth}
use Rattle.ql_eval.specs.Truths.{opposite, opposite_if, both, either, holds}
use Rattle.ql_eval.specs.Conditions.{compared, is_in, any_in, is_like, is_null, is_one_of, truth, truth_step, keeps, keeps_by, mentions, mention_step, tests, tests_by}

or_left : (c d : Bool) → c ≡ true → (c || d) ≡ true
or_left c d e = rw e refl

or_right : (c d : Bool) → d ≡ true → (c || d) ≡ true
or_right true d e = refl
or_right false d e = e

mentions_roll : (id : List ℕ) (z : Condition-F Condition) → mentions id (roll-Condition z) ≡ mention_step id (map-Condition Condition Bool (mentions id) z)
mentions_roll id z = fold-roll-Condition Bool (mention_step id) z

module _ (a b : Row) (folders : a.folders ≡ b.folders) (above : a.above ≡ b.above) where
  -- the two rows have the same value of each property that is named
  abbrev Agree : (List ℕ → Bool) → Type 0
  Agree named = (id : List ℕ) → named id ≡ true → value_in a.values id ≡ value_in b.values id

  abbrev IsSame : Condition → Type 0
  IsSame x = Agree (λ id. mentions id x) → truth a x ≡ truth b x

  same_roll : (z : Condition-F Condition) → truth_step a (map-Condition Condition Truth (truth a) z) ≡ truth_step b (map-Condition Condition Truth (truth b) z) → truth a (roll-Condition z) ≡ truth b (roll-Condition z)
  same_roll z e = fold-roll-Condition Truth (truth_step a) z ∙ (e ∙ sym (fold-roll-Condition Truth (truth_step b) z))

  -- each part of y has its proof beside it
  same_layer : (y : Condition-F ((x : Condition) × IsSame x)) → IsSame (roll-Condition (map-Condition ((x : Condition) × IsSame x) Condition (λ e. e.0) y))
  same_layer (Condition-F.Or p q) h = same_roll (Condition-F.Or p.0 q.0)
      (λ i. either
      (p.1 (λ id m. h id (mentions_roll id (Condition-F.Or p.0 q.0) ∙ or_left (mentions id p.0) (mentions id q.0) m)) i)
      (q.1 (λ id m. h id (mentions_roll id (Condition-F.Or p.0 q.0) ∙ or_right (mentions id p.0) (mentions id q.0) m)) i))
  same_layer (Condition-F.And p q) h = same_roll (Condition-F.And p.0 q.0)
      (λ i. both
      (p.1 (λ id m. h id (mentions_roll id (Condition-F.And p.0 q.0) ∙ or_left (mentions id p.0) (mentions id q.0) m)) i)
      (q.1 (λ id m. h id (mentions_roll id (Condition-F.And p.0 q.0) ∙ or_right (mentions id p.0) (mentions id q.0) m)) i))
  same_layer (Condition-F.Not p) h = same_roll (Condition-F.Not p.0)
      (ap opposite (p.1 (λ id m. h id (mentions_roll id (Condition-F.Not p.0) ∙ m))))
  same_layer (Condition-F.Compare id comparison s) h = same_roll (Condition-F.Compare id comparison s)
      (ap (compared comparison s) (h id (mentions_roll id (Condition-F.Compare id comparison s) ∙ bytes_same id id refl)))
  same_layer (Condition-F.In id negated ss) h = same_roll (Condition-F.In id negated ss)
      (ap (λ v. opposite_if negated (is_in ss v)) (h id (mentions_roll id (Condition-F.In id negated ss) ∙ bytes_same id id refl)))
  same_layer (Condition-F.AnyIn id negated ss) h = same_roll (Condition-F.AnyIn id negated ss)
      (ap (any_in negated ss) (h id (mentions_roll id (Condition-F.AnyIn id negated ss) ∙ bytes_same id id refl)))
  same_layer (Condition-F.Like id negated ps) h = same_roll (Condition-F.Like id negated ps)
      (ap (λ v. opposite_if negated (is_like ps v)) (h id (mentions_roll id (Condition-F.Like id negated ps) ∙ bytes_same id id refl)))
  same_layer (Condition-F.Null id negated) h = same_roll (Condition-F.Null id negated)
      (ap (is_null negated) (h id (mentions_roll id (Condition-F.Null id negated) ∙ bytes_same id id refl)))
  same_layer (Condition-F.InFolder f) h = same_roll (Condition-F.InFolder f) (ap (λ fs. is_one_of fs f) folders)
  same_layer (Condition-F.InTree f) h = same_roll (Condition-F.InTree f) (ap (λ fs. is_one_of fs f) above)

  pub same_truth : (x : Condition) → ((id : List ℕ) → mentions id x ≡ true → value_in a.values id ≡ value_in b.values id) → truth a x ≡ truth b x
  same_truth = ind-Condition IsSame (λ x y is. subst (λ z. IsSame (roll-Condition z)) is (same_layer y))

  same_filter : (filter : Option Condition) → Agree (tests_by filter) → keeps_by filter a ≡ keeps_by filter b
  same_filter None h = refl
  same_filter (Some x) h = ap holds (same_truth x h)

  -- the query keeps both or neither
  pub same_keeps : (bound : Bound) → ((id : List ℕ) → tests bound id ≡ true → value_in a.values id ≡ value_in b.values id) → keeps bound a ≡ keeps bound b
  same_keeps bound h = same_filter bound.filter h
