-- The texts of a value are read exactly where all its scalars are.
use Rattle.std.proofs.Common.{◌≡◌, ℕ, List, [], ◌∷◌, refl, ap, ◌&&◌}
use Rattle.std.specs.List.{list_all, filter_map}
use Rattle.cm_base.specs.declared.value.Scalar.{Scalar}
use Rattle.cm_base.specs.declared.value.Scalar.TheVariants.{Flag, Whole, Time, Words}
use Rattle.cm_base.specs.declared.value.Value.{Value}
use Rattle.cm_types.specs.Properties.{scalars_of, texts_of, text_of_scalar}
use Rattle.cmis_spec.specs.Repository.{Repository}
use Rattle.cm_see.specs.Ends.{reads_end_named, reads_scalar}

pub all_scalars : (r : Repository) (u : List ℕ) (ss : List Scalar) → list_all (reads_scalar r u) ss ≡ list_all (reads_end_named r u) (filter_map text_of_scalar ss)
all_scalars r u [] = refl
all_scalars r u (Flag b ∷ ss) = all_scalars r u ss
all_scalars r u (Whole n ∷ ss) = all_scalars r u ss
all_scalars r u (Time n ∷ ss) = all_scalars r u ss
all_scalars r u (Words t ∷ ss) = ap (λ b. reads_end_named r u t && b) (all_scalars r u ss)

pub ends_by_scalars : (r : Repository) (u : List ℕ) (v : Value) → list_all (reads_scalar r u) (scalars_of v) ≡ list_all (reads_end_named r u) (texts_of v)
ends_by_scalars r u v = all_scalars r u (scalars_of v)
