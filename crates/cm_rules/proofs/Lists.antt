-- What one text states.
use Rattle.std.proofs.Common.{◌≡◌, ℕ, List, [], ◌∷◌, refl}
use Rattle.std.specs.Prelude.{Option, Some, None, true, false, not, unwrap_or, option_map}
use Rattle.cm_base.specs.declared.value.Scalar.{Scalar}
use Rattle.cm_base.specs.declared.value.Value.TheVariants.{Unset, One}
use Rattle.cm_types.specs.declared.property.PropertyKind.{PropertyKind}
use Rattle.cm_types.specs.declared.property.Cardinality.TheVariants.{Single}
use Rattle.cm_types.specs.Properties.{is_set, is_formless, scalar_of_text, value_of_texts}

is_set_of : (o : Option Scalar) → not (unwrap_or (option_map (λ s. false) o) true) ≡ is_set (unwrap_or (option_map One o) Unset)
is_set_of None = refl
is_set_of (Some s) = refl

-- a text of a form states a value
pub is_set_one : (kind : PropertyKind) (t : List ℕ) → not (is_formless kind t) ≡ is_set (value_of_texts kind Single (t ∷ []))
is_set_one kind t = is_set_of (scalar_of_text kind t)
