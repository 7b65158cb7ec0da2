-- The values that a query tests are those of the row.
use Rattle.std.proofs.Common.{◌≡◌, ◌∙◌, ℕ, Bool, true, false, List, [], ◌∷◌, ◌++◌, map, refl, sym, ap, subst}
use Rattle.std.specs.Prelude.{◌&&◌, filter, Option, Some, None, option_and_then, if◌then◌else◌, bytes_eq}
use Rattle.cm_base.specs.declared.object.Object.{Object}
use Rattle.cm_base.specs.declared.value.Slot.{Slot}
use Rattle.cm_types.specs.declared.property.PropDef.{PropDef}
use Rattle.cm_types.specs.Properties.{value_in}
use Rattle.cmis_spec.specs.Repository.{Repository}
use Rattle.cmis_laws.proofs.Lists.{by_test}
use Rattle.cmis_laws.proofs.Kept.{bytes_true}
use Rattle.cm_see.specs.Shown.{shown_slot}
use Rattle.ql_eval.specs.declared.row.Row.{Row}
use Rattle.ql_eval.specs.Conditions.{keeps, tests}
use Rattle.ql_eval.proofs.Mentioned.{same_keeps}
use Rattle.row_store.specs.Rows.{Search, if_kept, is_row, queryable_values, row_of, row_with}
use Rattle.state_rows.specs.Tested.{tested_values}

-- a property that is named has the same value among those that are named
same_value : (r : Repository) (u : List ℕ) (x : Object) (named : List ℕ → Bool) (id : List ℕ) → named id ≡ true → (ds : List PropDef)
    → value_in (map (shown_slot r u x) (filter (λ d. d.queryable && named d.id) ds)) id ≡ value_in (map (shown_slot r u x) (filter (λ d. d.queryable) ds)) id
same_value r u x named id h [] = refl
same_value r u x named id h (d ∷ ds) = by_test d.queryable
    (λ q. by_test (bytes_eq d.id id)
    (λ e. let n : named d.id ≡ true = ap named (bytes_true d.id id e) ∙ h in rw (q, n, e) refl)
    (λ e. by_test (named d.id)
    (λ n. rw (q, n, e) (same_value r u x named id h ds))
    (λ n. rw (q, n, e) (same_value r u x named id h ds))))
    (λ q. rw q (same_value r u x named id h ds))

-- the query keeps the row by the values that it tests as by all
same_kept : (r : Repository) (s : Search) (x : Object) (ds : List PropDef) → keeps s.bound (row_with r s.user x (tested_values r s x ds)) ≡ keeps s.bound (row_with r s.user x (queryable_values r s.user x ds))
same_kept r s x ds =
    same_keeps (row_with r s.user x (tested_values r s x ds)) (row_with r s.user x (queryable_values r s.user x ds)) refl refl s.bound
    (λ id h. same_value r s.user x (tests s.bound) id h ds)

-- a value more, where it is tested
pub one_tested : (r : Repository) (s t : Search) (x : Object) (d : PropDef) (slot : Slot) (old new : List Slot) → t ≡ s → d.queryable ≡ true → tests t.bound d.id ≡ true
    → slot ≡ shown_slot r t.user x d → new ≡ old ++ slot ∷ [] → new ≡ old ++ tested_values r s x (d ∷ [])
one_tested r s t x d slot old new same q e slot_is pushed = subst (λ v. new ≡ old ++ tested_values r v x (d ∷ [])) same (rw (q, e) (pushed ∙ ap (λ z. old ++ z ∷ []) slot_is))

module _ (r : Repository) (s t : Search) (x : Object) (same : t ≡ s) where
  -- the row that is tested, and the whole one
  module _ (ds : List PropDef) (tested : List Slot) (row : Row) (values_are : tested ≡ tested_values r s x ds) (row_is : row ≡ row_with r t.user x tested) where
    abbrev whole : Row
    whole = row_with r s.user x (queryable_values r s.user x ds)

    at : row ≡ row_with r s.user x (tested_values r s x ds)
    at = row_is ∙ (λ i. row_with r (same i).user x (values_are i))

    alike : keeps t.bound row ≡ keeps s.bound whole
    alike = (λ i. keeps (same i).bound (at i)) ∙ same_kept r s x ds

    pub not_kept : keeps t.bound row ≡ false → None ≡ if_kept s.bound whole
    not_kept e = let k : keeps s.bound whole ≡ false = sym alike ∙ e in rw k refl

    pub is_kept : (values : List Slot) → keeps t.bound row ≡ true → values ≡ queryable_values r t.user x ds
        → Some (record { id = row.id; values = values; folders = row.folders; above = row.above }) ≡ if_kept s.bound whole
    is_kept values e all_are =
        let k : keeps s.bound whole ≡ true = sym alike ∙ e in
        let all : values ≡ queryable_values r s.user x ds = all_are ∙ ap (λ v. queryable_values r v.user x ds) same in
        rw k (λ i. Some (record { id = (at i).id; values = all i; folders = (at i).folders; above = (at i).above }))

  pub no_row : is_row r t.user t.versions x ≡ false
      → None ≡ option_and_then (if_kept s.bound) (if is_row r s.user s.versions x then Some (row_of r s.user x) else None)
  no_row e = let k : is_row r s.user s.versions x ≡ false = ap (λ v. is_row r v.user v.versions x) (sym same) ∙ e in rw k refl

  pub a_row : (row : Option Row) → is_row r t.user t.versions x ≡ true → row ≡ if_kept s.bound (row_of r s.user x)
      → row ≡ option_and_then (if_kept s.bound) (if is_row r s.user s.versions x then Some (row_of r s.user x) else None)
  a_row row e h = let k : is_row r s.user s.versions x ≡ true = ap (λ v. is_row r v.user v.versions x) (sym same) ∙ e in rw k h
