-- For the proof: objects with the rows by which they are put in order.
use Rattle.std.specs.Prelude.{ℕ, List}
use Rattle.core.specs.declared.cmp.Ordering.{Ordering}
use Rattle.cm_base.specs.declared.object.Object.{Object}
use Rattle.call_parts.specs.declared.readings.PropertyFilter.{PropertyFilter}
use Rattle.cmis_spec.specs.Repository.{Repository}
use Rattle.ql_bind.specs.declared.bound.OrderKey.{OrderKey}
use Rattle.ql_eval.specs.declared.row.Row.{Row}
use Rattle.ql_eval.specs.Order.{row_order}
use Rattle.rd_order.specs.declared.ordered.Keyed.{Keyed}
use Rattle.rd_order.specs.Ordered.{sort_row}

abbrev pub object_and_row : Keyed → Object × Row
object_and_row k = (k.object.now, k.row)

abbrev pub with_row : Repository → List ℕ → PropertyFilter → Object → Object × Row
with_row r u f x = (x, sort_row r u f x)

abbrev pub rows_in_order : List OrderKey → Keyed → Keyed → Ordering
rows_in_order keys a b = row_order keys a.row b.row
