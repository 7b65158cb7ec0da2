-- Objects that stand in the order of their rows.
use Rattle.std.specs.Prelude.{◌≡◌, ℕ, List, [], ◌∷◌, map}
use Rattle.std.proofs.Common.{refl, sym, ap, ◌∙◌}
use Rattle.cm_base.specs.declared.object.Object.{Object}
use Rattle.call_parts.specs.declared.readings.PropertyFilter.{PropertyFilter}
use Rattle.cmis_spec.specs.Repository.{Repository}
use Rattle.ql_bind.specs.declared.bound.OrderKey.{OrderKey}
use Rattle.ql_eval.specs.declared.row.Row.{Row}
use Rattle.ql_eval.specs.Order.{row_order}
use Rattle.rd_order.specs.declared.ordered.Keyed.{Keyed}
use Rattle.rd_order.specs.Keyed.{object_and_row, rows_in_order, with_row}
use Rattle.rd_order.specs.Ordered.{object_order, sorted_by}
use Rattle.rd_order.proofs.Sorting.{sorted_mapped}

firsts : (r : Repository) (u : List ℕ) (f : PropertyFilter) (xs : List Object) → map (λ p. p.0) (map (with_row r u f) xs) ≡ xs
firsts r u f [] = refl
firsts r u f (x ∷ xs) = ap (λ ys. x ∷ ys) (firsts r u f xs)

-- the objects of what is in order by rows are in order
pub in_order : (r : Repository) (u : List ℕ) (f : PropertyFilter) (keys : List OrderKey) (xs : List Object) (all : List Keyed) → map object_and_row all ≡ map (with_row r u f) xs
    → map (λ p. p.0) (map object_and_row (sorted_by (rows_in_order keys) all)) ≡ sorted_by (object_order r u f keys) xs
in_order r u f keys xs all e =
    ap (map (λ (p : Object × Row). p.0))
    (sorted_mapped object_and_row (λ p q. row_order keys p.1 q.1) all
    ∙ (ap (sorted_by (λ (p q : Object × Row). row_order keys p.1 q.1)) e
    ∙ sym (sorted_mapped (with_row r u f) (λ p q. row_order keys p.1 q.1) xs)))
    ∙ firsts r u f (sorted_by (object_order r u f keys) xs)
