-- What a call names, one after another.
use Rattle.std.specs.Prelude.{ℕ, Bool, false, not, List, unwrap_or, option_map}
use Rattle.cm_base.specs.declared.value.Scalar.{Scalar}
use Rattle.cm_types.specs.declared.definition.TypeDef.{TypeDef}
use Rattle.cm_types.specs.declared.definition.BaseType.TheVariants as bases
use Rattle.cm_types.specs.Types.{is_below}
use Rattle.cm_types.specs.Properties.{text_of_scalar}
use Rattle.cmis_spec.specs.Repository.{Repository, is_a}
use Rattle.cmis_spec.specs.Access.{read_named}

-- the type is the named one or below it; what is no text names none
abbrev pub is_below_scalar : List TypeDef → List ℕ → Scalar → Bool
is_below_scalar types kind s = unwrap_or (option_map (is_below types kind) (text_of_scalar s)) false

-- the caller reads the object, and it is no policy
abbrev pub is_other_policy : Repository → List ℕ → List ℕ → Bool
is_other_policy r u id = unwrap_or (option_map (λ x. not (is_a r bases.Policy x)) (read_named r u id)) false
