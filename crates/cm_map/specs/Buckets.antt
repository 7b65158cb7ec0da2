-- Maps under keys.
use Rattle.std.specs.Prelude.{List, [], ◌∷◌, Option, unwrap_or, option_and_then}
use Rattle.core.specs.declared.cmp.Ordering.{Ordering}
use Rattle.core.specs.FinMap.Entries.{put, find}
use Rattle.cm_map.specs.Parts.{without_key}

-- the value at the inner key in the map under the outer one
abbrev pub find_in : {K J V : Type 0} → (K → K → Ordering) → (J → J → Ordering) → List (K × List (J × V)) → K → J → Option V
find_in R S buckets outer inner = option_and_then (find S inner) (find R outer buckets)

-- the map under the outer key; where there is none, the empty one
abbrev pub bucket_of : {K J V : Type 0} → (K → K → Ordering) → List (K × List (J × V)) → K → List (J × V)
bucket_of R buckets outer = unwrap_or (find R outer buckets) []

-- the maps with this one under the outer key; an empty one is not kept
abbrev pub with_bucket : {K J V : Type 0} → (K → K → Ordering) → K → List (J × V) → List (K × List (J × V)) → List (K × List (J × V))
with_bucket R outer [] buckets = without_key R outer buckets
with_bucket R outer (e ∷ es) buckets = put R outer (e ∷ es) buckets
