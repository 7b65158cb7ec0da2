-- Worked rows: three objects, of which the first has no size.
use Rattle.std.specs.Prelude.{◌≡◌, ℕ, pos, Bool, true, false, List, [], ◌∷◌, map, codes, Ok, Err}
use Rattle.std.proofs.Common.{refl}
use Rattle.cm_base.specs.declared.cause.Cause.TheVariants as causes
use Rattle.cm_base.specs.declared.value.Value.TheVariants.{Unset, One}
use Rattle.cm_base.specs.declared.value.Scalar.TheVariants.{Whole}
use Rattle.cm_base.specs.declared.value.Value.{Value}
use Rattle.cm_types.specs.BaseTypes.{base_types}
use Rattle.order_parts.specs.declared.readings.SortSpecification.{SortSpecification}
use Rattle.ql_bind.specs.declared.bound.OrderKey.{OrderKey}
use Rattle.ql_eval.specs.declared.row.Row.{Row}
use Rattle.ql_eval.specs.Order.{row_order}
use Rattle.rd_order.specs.Ordered.{sort_keys, sorted_by}

abbrev sized : ℕ → Value → Row
sized n v = record { id = record { 0 = n }; values = record { id = codes "size"; value = v } ∷ []; folders = []; above = [] }

abbrev by_size : Bool → List OrderKey
by_size descending = record { id = codes "size"; descending = descending } ∷ []

abbrev in_order : List OrderKey → List ℕ
in_order keys = map (λ row. row.id.0) (sorted_by (row_order keys) (sized 4 (One (Whole (pos 7))) ∷ sized 2 Unset ∷ sized 3 (One (Whole (pos 7))) ∷ sized 1 (One (Whole (pos 9))) ∷ []))

-- what is unset stands first, and what ties by its number
row_ascending : in_order (by_size false) ≡ 2 ∷ 3 ∷ 4 ∷ 1 ∷ []
row_ascending = refl

-- what is unset stands last, and what ties still by its number upwards
row_descending : in_order (by_size true) ≡ 1 ∷ 3 ∷ 4 ∷ 2 ∷ []
row_descending = refl

abbrev by : List ℕ → Bool → SortSpecification
by name descending = record { query_name = name; descending = descending }

row_keys : sort_keys base_types (by (codes "cmis:creationDate") true ∷ by (codes "cmis:name") false ∷ []) ≡ Ok (record { id = codes "cmis:creationDate"; descending = true } ∷ record { id = codes "cmis:name"; descending = false } ∷ [])
row_keys = refl

row_unknown : sort_keys base_types (by (codes "cmis:name") false ∷ by (codes "cmis:nothing") false ∷ []) ≡ Err (causes.BadArgument (codes "orderBy"))
row_unknown = refl

-- a property that is not orderable
row_not_orderable : sort_keys base_types (by (codes "cmis:secondaryObjectTypeIds") false ∷ []) ≡ Err (causes.BadArgument (codes "orderBy"))
row_not_orderable = refl
