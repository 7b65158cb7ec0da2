-- What a planner may choose from: sets of objects among which every row of a query is.
use Rattle.std.specs.Prelude.{ℕ, min, Bool, false, List, [], ◌∷◌, ◌++◌, map, filter, fold, length, Option, Some, None, bytes_eq, codes, if◌then◌else◌}
use Rattle.cm_base.specs.declared.number.Oid.{Oid}
use Rattle.cm_base.specs.declared.object.Object.{Object}
use Rattle.cm_base.specs.declared.value.Scalar.{Scalar}
use Rattle.cm_base.specs.declared.value.Scalar.TheVariants.{Words}
use Rattle.cmis_spec.specs.Repository.{Repository, same}
use Rattle.cmis_spec.specs.Access.{oid_named}
use Rattle.ql_tree.specs.declared.tree.Comparison.{Comparison}
use Rattle.ql_tree.specs.declared.tree.Comparison.TheVariants.{Equal}
use Rattle.ql_bind.specs.declared.bound.Condition.{Condition}
use Rattle.ql_bind.specs.declared.bound.Condition.TheOpen.{Condition-F}
use Rattle.ql_bind.specs.declared.bound.Condition.TheFolds.{fold-Condition}
use Rattle.ql_bind.specs.declared.bound.Bound.{Bound}
use Rattle.ql_plan.specs.declared.key.Key.{Key}
use Rattle.ql_plan.specs.declared.key.Key.TheVariants as keys
use Rattle.row_store.specs.Rows.{is_filed_in, of_types, numbers}

-- cmis:objectId = 'k'
abbrev pub key_of_scalar : Scalar → List Key
key_of_scalar (Words id) = keys.Object (oid_named id) ∷ []
key_of_scalar _ = []

abbrev pub key_of_compare : List ℕ → Comparison → Scalar → List Key
key_of_compare id Equal s = if bytes_eq id (codes "cmis:objectId") then key_of_scalar s else []
key_of_compare id _ s = []

-- of the condition, or of the members of its outermost AND: the object that an id names, and the folder of an IN_FOLDER
abbrev pub key_step : Condition-F (List Key) → List Key
key_step (Condition-F.And a b) = a ++ b
key_step (Condition-F.Compare id by s) = key_of_compare id by s
key_step (Condition-F.InFolder f) = keys.Folder f ∷ []
key_step _ = []

abbrev pub keys_of : Condition → List Key
keys_of = fold-Condition (List Key) key_step

abbrev pub keys_by : Option Condition → List Key
keys_by None = []
keys_by (Some x) = keys_of x

-- the object is in the set of a key: it has the number, or it is filed in the folder
abbrev pub is_in_set : Repository → Key → Object → Bool
is_in_set r (keys.Object None) x = false
is_in_set r (keys.Object (Some n)) x = same x.id n
is_in_set r (keys.Folder None) x = false
is_in_set r (keys.Folder (Some f)) x = is_filed_in r f x

abbrev pub set_of : Repository → Key → List Oid
set_of r k = numbers (filter (is_in_set r k) r.objects)

-- all objects of the row types, and the set of each key
abbrev pub candidate_sets : Repository → Bound → List (List Oid)
candidate_sets r bound = of_types r bound.kinds ∷ map (set_of r) (keys_by bound.filter)

-- the least length of some lists, and at most so many
abbrev pub least_length : {A : Type 0} → ℕ → List (List A) → ℕ
least_length most sets = fold (λ least xs. min least (length xs)) most sets

-- how many members the smallest of the sets has
abbrev pub fetch_bound : Repository → Bound → ℕ
fetch_bound r bound = least_length (length (of_types r bound.kinds)) (map (set_of r) (keys_by bound.filter))
