-- Rows by their numbers, and the values at a row.
use Rattle.std.proofs.Common.{◌≡◌, ℕ, Bool, true, List, [], ◌∷◌, map, refl, sym, ap, subst, true≢false, inl, inr}
use Rattle.std.specs.Prelude.{◌&&◌, ◌⊎◌, filter, All, Some, bytes_eq}
use Rattle.std.specs.List.{list_any, filter_map}
use Rattle.std.proofs.lemmas.List.Elements.{All-head, All-tail}
use Rattle.std.specs.Cmp.{first_so}
use Rattle.cm_base.specs.declared.number.Oid.{Oid}
use Rattle.cm_base.specs.declared.object.Object.{Object}
use Rattle.cm_base.specs.declared.value.Value.TheVariants.{Unset}
use Rattle.cm_types.specs.declared.property.PropDef.{PropDef}
use Rattle.cm_types.specs.Properties.{value_in}
use Rattle.cmis_spec.specs.Repository.{Repository, same, object_at, is_filed}
use Rattle.cmis_spec.specs.Access.{reads}
use Rattle.cmis_laws.proofs.Lists.{by_test, same_eq}
use Rattle.cmis_laws.proofs.Kept.{bytes_true}
use Rattle.cm_see.specs.Shown.{shown_slot, property_value}
use Rattle.row_store.specs.Rows.{is_row, row_of, row_at, numbers}

-- a row has the value of a property, or does not have the property
pub value_of_row : (r : Repository) (u : List ℕ) (x : Object) (id : List ℕ) (ds : List PropDef)
    → (value_in (map (shown_slot r u x) ds) id ≡ Unset) ⊎ (value_in (map (shown_slot r u x) ds) id ≡ property_value r u x id)
value_of_row r u x id [] = inl refl
value_of_row r u x id (d ∷ ds) = by_test (bytes_eq d.id id)
    (λ e. inr (rw e (ap (property_value r u x) (bytes_true d.id id e))))
    (λ e. rw e (value_of_row r u x id ds))

-- the rows of numbers of objects
pub rows_at : (r : Repository) (u : List ℕ) (versions : Bool) (xs : List Object) → All (λ x. object_at r x.id ≡ Some x) xs
    → filter_map (row_at r u versions) (numbers xs) ≡ map (row_of r u) (filter (is_row r u versions) xs)
rows_at r u versions [] there = refl
rows_at r u versions (x ∷ xs) there =
    let at : object_at r x.id ≡ Some x = All-head (λ x. object_at r x.id ≡ Some x) x xs there in
    let rest = rows_at r u versions xs (All-tail (λ x. object_at r x.id ≡ Some x) x xs there) in
    by_test (is_row r u versions x)
    (λ e. rw (at, e) (ap (λ ys. row_of r u x ∷ ys) rest))
    (λ e. rw (at, e) rest)

-- one of the folders that are read is a folder in which the object is filed
pub filed_by_parents : (r : Repository) (u : List ℕ) (n f : Oid) (xs : List Object)
    → list_any (same f) (map (λ g. g.id) (filter (λ g. is_filed r g.id n && reads r u g) xs)) ≡ true → is_filed r f n ≡ true
filed_by_parents r u n f [] h = absurd (true≢false (sym h))
filed_by_parents r u n f (g ∷ gs) h = by_test (is_filed r g.id n && reads r u g)
    (λ e. by_test (same f g.id)
    (λ d. subst (λ m. is_filed r m n ≡ true) (sym (same_eq f g.id d)) (first_so (is_filed r g.id n) (reads r u g) e))
    (λ d. filed_by_parents r u n f gs (rw (e, d) at h)))
    (λ e. filed_by_parents r u n f gs (rw e at h))
