-- The order in which objects are listed (CMIS 1.1, section 2.2.1.2.7).
use Rattle.std.specs.Prelude.{ℕ, true, ◌&&◌, if◌then◌else◌, List, [], ◌∷◌, map, find, Option, option_map, bytes_eq, Ok, codes}
use Rattle.core.specs.declared.cmp.Ordering.{Ordering}
use Rattle.core.specs.Ordering.{is_gt}
use Rattle.cm_base.specs.declared.cause.Cause.TheVariants as causes
use Rattle.cm_base.specs.Judged.{Judged, ◌>>=◌, find_or}
use Rattle.cm_base.specs.declared.object.Object.{Object}
use Rattle.cm_base.specs.declared.value.Slot.{Slot}
use Rattle.cm_types.specs.declared.definition.TypeDef.{TypeDef}
use Rattle.cm_types.specs.declared.property.PropDef.{PropDef}
use Rattle.call_parts.specs.declared.readings.PropertyFilter.{PropertyFilter}
use Rattle.call_parts.specs.declared.readings.PropertyFilter.TheVariants as filters
use Rattle.call_parts.specs.declared.replies.Properties.{Properties}
use Rattle.call_parts.specs.declared.replies.Properties.TheVariants as forms
use Rattle.order_parts.specs.declared.readings.SortSpecification.{SortSpecification}
use Rattle.cmis_spec.specs.Repository.{Repository}
use Rattle.cm_see.specs.Shown.{shown_properties}
use Rattle.ql_bind.specs.declared.bound.OrderKey.{OrderKey}
use Rattle.ql_bind.specs.Binding.{each_onto}
use Rattle.ql_bind.specs.Tables.{properties_in}
use Rattle.ql_eval.specs.declared.row.Row.{Row}
use Rattle.ql_eval.specs.Order.{row_order}

-- ---- what is ordered by

-- the orderable property of this query name, of any type
abbrev pub orderable_named : List TypeDef → List ℕ → Option PropDef
orderable_named types name = find (λ d. d.orderable && bytes_eq d.query_name name) (properties_in types)

abbrev pub key_of : SortSpecification → PropDef → OrderKey
key_of s d = record { id = d.id; descending = s.descending }

abbrev pub sort_key : List TypeDef → SortSpecification → Judged OrderKey
sort_key types s = find_or (causes.BadArgument (codes "orderBy")) (option_map (key_of s) (orderable_named types s.query_name))

-- the properties in their order, or the cause where one is none or is not orderable
abbrev pub sort_keys : List TypeDef → List SortSpecification → Judged (List OrderKey)
sort_keys types specifications = each_onto (sort_key types) [] specifications

-- ---- the order

-- only the properties that are ordered by
abbrev pub sort_filter : List SortSpecification → PropertyFilter
sort_filter specifications = filters.QueryNames (map (λ s. s.query_name) specifications)

abbrev pub values_in : Properties → List Slot
values_in (forms.Succinct slots) = slots
values_in (forms.Full properties) = []

-- an object as a row of what the filter shows of it to the caller; what it lacks is unset there
abbrev pub sort_row : Repository → List ℕ → PropertyFilter → Object → Row
sort_row r u f x = record { id = x.id; values = values_in (shown_properties r u f true x); folders = []; above = [] }

-- as the rows of a query stand: by the keys, and where they tie by the number upwards
abbrev pub object_order : Repository → List ℕ → PropertyFilter → List OrderKey → Object → Object → Ordering
object_order r u f keys a b = row_order keys (sort_row r u f a) (sort_row r u f b)

-- put before the first one that it does not come after
abbrev pub put_by : {A : Type 0} → (A → A → Ordering) → A → List A → List A
put_by order x [] = x ∷ []
put_by order x (y ∷ ys) = if is_gt (order x y) then y ∷ put_by order x ys else x ∷ y ∷ ys

abbrev pub sorted_by : {A : Type 0} → (A → A → Ordering) → List A → List A
sorted_by order [] = []
sorted_by order (x ∷ xs) = put_by order x (sorted_by order xs)

-- ---- lists of objects

abbrev pub in_order : Repository → List ℕ → List SortSpecification → List Object → Judged (List Object)
in_order r u specifications xs = do
  keys ← sort_keys r.types specifications
  Ok (sorted_by (object_order r u (sort_filter specifications) keys) xs)

-- in the order that is asked for; where none is, as they stand, which is the order of their numbers
abbrev pub ordered : Repository → List ℕ → List SortSpecification → List Object → Judged (List Object)
ordered r u [] xs = Ok xs
ordered r u (s ∷ specifications) xs = in_order r u (s ∷ specifications) xs
