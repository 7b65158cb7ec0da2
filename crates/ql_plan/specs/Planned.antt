-- What the planner's steps tell of the rows that are found among what they chose.
use Rattle.std.specs.Prelude.{◌≡◌, ℕ, nat_lt, Bool, true, List, [], ◌∷◌, filter, fold, length, Option, Some, None, codes, if◌then◌else◌}
use Rattle.std.specs.List.{list_any, filter_map}
use Rattle.std.specs.Option.{option_to_list}
use Rattle.cm_base.specs.declared.number.Oid.{Oid}
use Rattle.cm_base.specs.declared.value.Value.TheVariants.{One}
use Rattle.cm_base.specs.declared.value.Scalar.TheVariants.{Words}
use Rattle.cm_types.specs.Properties.{value_in}
use Rattle.cmis_spec.specs.Repository.{Repository, same}
use Rattle.cmis_spec.specs.Access.{oid_named}
use Rattle.ql_bind.specs.declared.bound.Condition.{Condition}
use Rattle.ql_bind.specs.declared.bound.Bound.{Bound}
use Rattle.ql_eval.specs.declared.row.Row.{Row}
use Rattle.ql_eval.specs.declared.truth.Truth.TheVariants.{Holds}
use Rattle.ql_eval.specs.Conditions.{truth, keeps, keeps_by}
use Rattle.row_store.specs.Rows.{Search, row_at, row_kept, of_types, has_types, filed_in}
use Rattle.ql_plan.specs.declared.key.Key.{Key}
use Rattle.ql_plan.specs.declared.key.Key.TheVariants as keys
use Rattle.ql_plan.specs.Found.{rows_of}
use Rattle.ql_plan.specs.Candidates.{keys_by}

-- the row is of the object that has the number, or of one filed in the folder
abbrev pub Fits : Key → Row → Type 0
Fits (keys.Object o) row = (id : List ℕ) × (value_in row.values (codes "cmis:objectId") ≡ One (Words id)) × (oid_named id ≡ o)
Fits (keys.Folder None) row = ⊥
Fits (keys.Folder (Some f)) row = list_any (same f) row.folders ≡ true

-- every row at which the condition is true fits the key
abbrev pub IsKeyOf : Condition → Key → Type 0
IsKeyOf x k = (row : Row) → truth row x ≡ Holds → Fits k row

-- every row that is kept fits it
abbrev pub IsKeyBy : Option Condition → Key → Type 0
IsKeyBy filter k = (row : Row) → keeps_by filter row ≡ true → Fits k row

-- the rows that are kept are all among these numbers, in their order
abbrev pub HasAll : Repository → Bound → List Oid → Type 0
HasAll r bound ns = (u : List ℕ) (versions : Bool) → filter (keeps bound) (filter_map (row_at r u versions) ns) ≡ filter (keeps bound) (rows_of r u bound.kinds versions)

-- ---- what is kept

-- the row of a number, where there is one that the query keeps
abbrev pub kept_at : Repository → Search → Oid → List Row
kept_at r s n = option_to_list (row_kept r s n)

-- of the rows of these numbers, those that the query keeps
abbrev pub kept : Repository → Search → List Oid → List Row
kept r s ns = filter (keeps s.bound) (filter_map (row_at r s.user s.versions) ns)

-- ---- what is fetched

-- the numbers that a key names
abbrev pub numbers_of : Repository → Key → List Oid
numbers_of r (keys.Object None) = []
numbers_of r (keys.Object (Some n)) = n ∷ []
numbers_of r (keys.Folder None) = []
numbers_of r (keys.Folder (Some f)) = filed_in r f

-- those of the row types
abbrev pub members_of : Repository → List (List ℕ) → Key → List Oid
members_of r kinds k = filter (has_types r kinds) (numbers_of r k)

abbrev pub shorter : List Oid → List Oid → List Oid
shorter best other = if nat_lt (length other) (length best) then other else best

-- the fewest members of a key
abbrev pub fewest : Repository → List (List ℕ) → Key → List Key → List Oid
fewest r kinds k ks = fold (λ best other. shorter best (members_of r kinds other)) (members_of r kinds k) ks

-- all objects of the row types where the condition has no key
abbrev pub planned_by : Repository → List (List ℕ) → List Key → List Oid
planned_by r kinds [] = of_types r kinds
planned_by r kinds (k ∷ ks) = fewest r kinds k ks

abbrev pub planned : Repository → Bound → List Oid
planned r bound = planned_by r bound.kinds (keys_by bound.filter)
