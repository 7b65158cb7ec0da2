-- The rows of queries (CMIS 1.1, section 2.1.14.2): which objects are rows for a caller, and what a condition may test of them.
use Rattle.std.specs.Prelude.{ℕ, Bool, false, ◌&&◌, ◌||◌, not, List, map, filter, Option, Some, None, is_some, unwrap_or, option_map, option_and_then, bytes_eq, if◌then◌else◌}
use Rattle.std.specs.List.{list_any, flat_map}
use Rattle.cm_base.specs.declared.number.Oid.{Oid}
use Rattle.cm_base.specs.declared.object.Object.{Object}
use Rattle.cm_base.specs.declared.value.Slot.{Slot}
use Rattle.cm_types.specs.Types.{props_of}
use Rattle.cm_types.specs.declared.property.PropDef.{PropDef}
use Rattle.cmis_spec.specs.Repository.{Repository, object_at, owner_of, entry_of, is_filed, folders_up}
use Rattle.cmis_spec.specs.Access.{reads, stands, parents_of}
use Rattle.cm_see.specs.Shown.{shown_slot}
use Rattle.ql_bind.specs.declared.bound.Bound.{Bound}
use Rattle.ql_eval.specs.declared.row.Row.{Row}
use Rattle.ql_eval.specs.Conditions.{keeps}

-- ---- which objects are rows

-- of one of the types, or with one of them as a secondary type
abbrev pub is_of_types : List (List ℕ) → Object → Bool
is_of_types kinds x = list_any (bytes_eq x.kind) kinds || list_any (λ s. list_any (bytes_eq s) kinds) x.secondary

-- never a working copy; of the documents of a series the latest version, or every version
abbrev pub is_listed : Repository → Bool → Object → Bool
is_listed r versions x = not (is_some (owner_of r x)) && (versions || stands r x)

abbrev pub is_row : Repository → List ℕ → Bool → Object → Bool
is_row r u versions x = reads r u x && is_listed r versions x

-- ---- what is tested of them

-- of these properties, the queryable ones as the caller sees them
abbrev pub queryable_values : Repository → List ℕ → Object → List PropDef → List Slot
queryable_values r u x ds = map (shown_slot r u x) (filter (λ d. d.queryable) ds)

abbrev pub row_values : Repository → List ℕ → Object → List Slot
row_values r u x = queryable_values r u x (props_of r.types x.kind x.secondary)

-- the row of the object with these values; the folders are those that the caller reads in which it is filed, and whoever reads a folder reads
-- those above it
abbrev pub row_with : Repository → List ℕ → Object → List Slot → Row
row_with r u x values = record {
  id = x.id;
  values = values;
  folders = map (λ f. f.id) (parents_of r u (entry_of x));
  above = flat_map (λ f. folders_up r f.id) (parents_of r u (entry_of x));
}

abbrev pub row_of : Repository → List ℕ → Object → Row
row_of r u x = row_with r u x (row_values r u x)

-- ---- look-ups

abbrev pub numbers : List Object → List Oid
numbers xs = map (λ x. x.id) xs

-- the objects of these types, versions and working copies counted
abbrev pub of_types : Repository → List (List ℕ) → List Oid
of_types r kinds = numbers (filter (is_of_types kinds) r.objects)

-- the number is that of an object of these types
abbrev pub has_types : Repository → List (List ℕ) → Oid → Bool
has_types r kinds n = unwrap_or (option_map (is_of_types kinds) (object_at r n)) false

-- the folders and items that are filed in the folder, and all versions of the series that are
abbrev pub is_filed_in : Repository → Oid → Object → Bool
is_filed_in r f x = is_filed r f (entry_of x) && not (is_some (owner_of r x))

abbrev pub filed_in : Repository → Oid → List Oid
filed_in r f = numbers (filter (is_filed_in r f) r.objects)

-- the row of an object, where it is one
abbrev pub row_at : Repository → List ℕ → Bool → Oid → Option Row
row_at r u versions n = option_and_then (λ x. if is_row r u versions x then Some (row_of r u x) else None) (object_at r n)

-- ---- what a query keeps

-- who asks, for what, and whether each version is a row
pub record Search : Type 0 where
  pub user : List ℕ
  pub bound : Bound
  pub versions : Bool

-- the row, where the query keeps it
abbrev pub if_kept : Bound → Row → Option Row
if_kept bound row = if keeps bound row then Some row else None

-- the row of an object, where it is one that the query keeps
abbrev pub row_kept : Repository → Search → Oid → Option Row
row_kept r s n = option_and_then (if_kept s.bound) (row_at r s.user s.versions n)
