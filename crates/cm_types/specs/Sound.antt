-- What holds of each property definition that a request makes (CMIS 1.1, section 2.1.3.3).
use Rattle.std.specs.Prelude.{◌≡◌, Bool, true, false, []}
use Rattle.cm_base.specs.declared.value.Value.{Value}
use Rattle.cm_base.specs.declared.value.Value.TheVariants.{Many}
use Rattle.cm_types.specs.declared.property.PropDef.{PropDef}
use Rattle.cm_types.specs.declared.property.PropertyKind.TheVariants as kinds
use Rattle.cm_types.specs.Changes.{of_kind, has_wrong_value}

-- no list of no values
abbrev pub is_no_empty_list : Value → Bool
is_no_empty_list (Many []) = false
is_no_empty_list v = true

-- a default value and choices without a fault, and limits of the kind alone
pub record IsSoundDef (d : PropDef) : Type 0 where
  pub has_no_fault : has_wrong_value d ≡ false
  pub default_is_no_empty_list : is_no_empty_list d.default ≡ true
  pub max_length_of_kind : of_kind kinds.String d.kind d.max_length ≡ d.max_length
  pub min_value_of_kind : of_kind kinds.Integer d.kind d.min_value ≡ d.min_value
  pub max_value_of_kind : of_kind kinds.Integer d.kind d.max_value ≡ d.max_value
