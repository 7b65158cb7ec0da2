-- Reading the ends of a relationship, one after another.
use Rattle.std.specs.Prelude.{ℕ, Bool, true, false, List, unwrap_or, option_map}
use Rattle.cm_base.specs.declared.value.Scalar.{Scalar}
use Rattle.cm_types.specs.Properties.{text_of_scalar}
use Rattle.cmis_spec.specs.Repository.{Repository}
use Rattle.cmis_spec.specs.Access.{reads_end, object_named}

-- the object of this id is there and is read
abbrev pub reads_end_named : Repository → List ℕ → List ℕ → Bool
reads_end_named r u id = unwrap_or (option_map (reads_end r u) (object_named r id)) false

-- what is no text names nothing
abbrev pub reads_scalar : Repository → List ℕ → Scalar → Bool
reads_scalar r u s = unwrap_or (option_map (reads_end_named r u) (text_of_scalar s)) true
