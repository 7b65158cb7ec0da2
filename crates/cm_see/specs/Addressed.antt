-- The object that a call addresses, among what the caller reads (CMIS 1.1, section 5.3.4).
use Rattle.std.specs.Prelude.{ℕ, List, Option}
use Rattle.cm_base.specs.declared.object.Object.{Object}
use Rattle.call_parts.specs.declared.place.Place.{Place}
use Rattle.call_parts.specs.declared.place.Place.TheVariants.{Id, Path}
use Rattle.cmis_spec.specs.Repository.{Repository}
use Rattle.cmis_spec.specs.Access.{read_named, at_path}

-- by its id, or by the names from the root on
abbrev pub addressed : Repository → List ℕ → Place → Option Object
addressed r u (Id id) = read_named r u id
addressed r u (Path names) = at_path r u names
