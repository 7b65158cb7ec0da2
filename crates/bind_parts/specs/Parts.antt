-- What many calls have: the place.
use Rattle.std.specs.Prelude.{ℕ, List, [], Option, Some, None, codes}
use Rattle.call_parts.specs.declared.place.Place.{Place}
use Rattle.call_parts.specs.declared.place.Place.TheVariants as places
use Rattle.request_target.specs.declared.target.Target.{Target}
use Rattle.request_target.specs.declared.target.Target.TheVariants as targets
use Rattle.bind_parts.specs.declared.asking.Asking.{Asking}
use Rattle.form_args.specs.Pairs.{first_of}

-- the names on the path of an object
abbrev pub names_in : Target → List (List ℕ)
names_in targets.Service = []
names_in targets.Repository = []
names_in (targets.Object names) = names

-- objectId wins over the path
abbrev pub place_by : List (List ℕ) → Option (List ℕ) → Place
place_by names None = places.Path names
place_by names (Some id) = places.Id id

abbrev pub place_of : Asking → Place
place_of asking = place_by (names_in asking.address) (first_of asking.form.pairs (codes "objectId"))
