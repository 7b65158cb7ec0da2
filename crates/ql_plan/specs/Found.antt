-- The rows that a query finds (CMIS 1.1, section 2.1.14.2): a filter over all objects, put in order.
use Rattle.std.specs.Prelude.{ℕ, Bool, ◌&&◌, List, map, filter}
use Rattle.cmis_spec.specs.Repository.{Repository}
use Rattle.ql_bind.specs.declared.bound.Bound.{Bound}
use Rattle.ql_eval.specs.declared.row.Row.{Row}
use Rattle.ql_eval.specs.Conditions.{keeps}
use Rattle.ql_eval.specs.Order.{ordered}
use Rattle.row_store.specs.Rows.{is_of_types, is_row, row_of}

-- the rows of the table for a caller, in the order of their numbers
abbrev pub rows_of : Repository → List ℕ → List (List ℕ) → Bool → List Row
rows_of r u kinds versions = map (row_of r u) (filter (λ x. is_of_types kinds x && is_row r u versions x) r.objects)

-- those at which the condition is true, in the query's order
abbrev pub found : Repository → List ℕ → Bound → Bool → List Row
found r u bound versions = ordered bound.keys (filter (keeps bound) (rows_of r u bound.kinds versions))
