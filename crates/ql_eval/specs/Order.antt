-- The order of a query's rows (CMIS 1.1, section 2.1.14.2.5).
use Rattle.std.specs.Prelude.{◌≡◌, Bool, true, false, List, [], ◌∷◌, find, All, Some, if◌then◌else◌}
use Rattle.core.specs.declared.cmp.Ordering.{Ordering}
use Rattle.core.specs.Ordering.{nat_cmp, ordering_then, is_gt}
use Rattle.cm_base.specs.declared.value.Value.{Value}
use Rattle.cm_base.specs.Orders.{value_order}
use Rattle.cm_types.specs.Properties.{value_in}
use Rattle.cmis_spec.specs.Repository.{same}
use Rattle.ql_bind.specs.declared.bound.OrderKey.{OrderKey}
use Rattle.ql_eval.specs.declared.row.Row.{Row}

-- unset before what is set; with DESC the other way round
abbrev pub value_order_by : Bool → Value → Value → Ordering
value_order_by true v w = value_order w v
value_order_by false v w = value_order v w

abbrev pub key_order : OrderKey → Row → Row → Ordering
key_order k a b = value_order_by k.descending (value_in a.values k.id) (value_in b.values k.id)

-- by the keys, the first one first; where they tie, by the number of the object upwards
abbrev pub row_order : List OrderKey → Row → Row → Ordering
row_order [] a b = nat_cmp a.id.0 b.id.0
row_order (k ∷ ks) a b = ordering_then (key_order k a b) (row_order ks a b)

-- a row put before the first one that it does not come after
abbrev pub put_row : List OrderKey → Row → List Row → List Row
put_row keys x [] = x ∷ []
put_row keys x (y ∷ ys) = if is_gt (row_order keys x y) then y ∷ put_row keys x ys else x ∷ y ∷ ys

abbrev pub ordered : List OrderKey → List Row → List Row
ordered keys [] = []
ordered keys (x ∷ xs) = put_row keys x (ordered keys xs)

-- no two rows are of one object
abbrev pub IsEachOnce : List Row → Type 0
IsEachOnce rows = All (λ x. find (λ y. same y.id x.id) rows ≡ Some x) rows
