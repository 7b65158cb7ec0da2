-- Objects that are seen alike in two repositories stand in the same order.
use Rattle.std.specs.Prelude.{◌≡◌, ℕ, true, List, [], ◌∷◌, All, Ok, Err}
use Rattle.std.proofs.Common.{refl, sym, ap, ◌∙◌}
use Rattle.std.proofs.lemmas.List.Elements.{All-weaker}
use Rattle.cm_base.specs.Judged.{Judged, ◌>>=◌}
use Rattle.cm_base.specs.declared.object.Object.{Object}
use Rattle.call_parts.specs.declared.readings.PropertyFilter.{PropertyFilter}
use Rattle.order_parts.specs.declared.readings.SortSpecification.{SortSpecification}
use Rattle.cmis_spec.specs.Repository.{Repository}
use Rattle.cm_see.proofs.SeenShown.{shown_alike}
use Rattle.cm_see.proofs.Worlds.{AreAlike, AreFound, IsAlike}
use Rattle.ql_bind.specs.declared.bound.OrderKey.{OrderKey}
use Rattle.ql_eval.specs.Order.{row_order}
use Rattle.rd_order.specs.Ordered.{object_order, ordered, sort_filter, sort_keys, sort_row, sorted_by, values_in}
use Rattle.rd_order.proofs.Sorting.{sorted_all, sorted_alike}

module _ (r other : Repository) (u : List ℕ) (a : AreAlike r other u) where
  row_alike : (f : PropertyFilter) (x : Object) → IsAlike r other u x → sort_row r u f x ≡ sort_row other u f x
  row_alike f x h = ap (λ o. record { id = x.id; values = values_in o.properties; folders = []; above = [] }) (shown_alike r other u a x h f true)

  by_keys : (f : PropertyFilter) (keys : List OrderKey) (xs ys : List Object) → AreFound r other u xs ys → sorted_by (object_order r u f keys) xs ≡ sorted_by (object_order other u f keys) ys
  by_keys f keys xs ys found =
      sorted_alike (sort_row r u f) (sort_row other u f) (row_order keys) xs
      (All-weaker (IsAlike r other u) (λ x. sort_row r u f x ≡ sort_row other u f x) (row_alike f) xs found.each)
      ∙ ap (sorted_by (object_order other u f keys)) found.same

  -- what is answered of objects that are seen alike is answered of them in their order
  pub answered_alike : {B : Type 0} (order : List SortSpecification) (f g : List Object → Judged B) → ((zs : List Object) → All (IsAlike r other u) zs → f zs ≡ g zs)
      → (xs ys : List Object) → AreFound r other u xs ys → (ordered r u order xs >>= f) ≡ (ordered other u order ys >>= g)
  answered_alike [] f g h xs ys found = h xs found.each ∙ ap g found.same
  answered_alike {B} (s ∷ specifications) f g h xs ys found =
      by (sort_keys r.types (s ∷ specifications))
      ∙ ap (λ ts. (sort_keys ts (s ∷ specifications) >>= λ keys. Ok (sorted_by (object_order other u (sort_filter (s ∷ specifications)) keys) ys)) >>= g) types
    where
      types : r.types ≡ other.types
      types = ap (λ s. s.types) (sym a.alike)

      by : (j : Judged (List OrderKey)) → ((j >>= λ keys. Ok (sorted_by (object_order r u (sort_filter (s ∷ specifications)) keys) xs)) >>= f) ≡ ((j >>= λ keys. Ok (sorted_by (object_order other u (sort_filter (s ∷ specifications)) keys) ys)) >>= g)
      by (Err c) = refl
      by (Ok keys) = h (sorted_by (object_order r u (sort_filter (s ∷ specifications)) keys) xs) (sorted_all (object_order r u (sort_filter (s ∷ specifications)) keys) (IsAlike r other u) xs found.each) ∙ ap g (by_keys (sort_filter (s ∷ specifications)) keys xs ys found)
