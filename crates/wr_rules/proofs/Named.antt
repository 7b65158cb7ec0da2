-- Tests of what is named, item by item.
use Rattle.std.specs.Prelude.{◌≡◌, ℕ, Bool, false, ◌||◌, not, List, [], ◌∷◌, Option, Some, None, unwrap_or, option_map, filter_map}
use Rattle.std.specs.List.{list_any}
use Rattle.std.proofs.Common.{refl, ap}
use Rattle.core.specs.List.{cons_option}
use Rattle.cm_base.specs.declared.value.Scalar.{Scalar}
use Rattle.cm_types.specs.declared.definition.TypeDef.{TypeDef}
use Rattle.cm_types.specs.declared.definition.BaseType.TheVariants as bases
use Rattle.cm_types.specs.Types.{is_below}
use Rattle.cm_types.specs.Properties.{text_of_scalar}
use Rattle.cmis_spec.specs.Repository.{Repository, is_a}
use Rattle.cmis_spec.specs.Access.{read_named}
use Rattle.wr_rules.specs.Rules.{read_all}
use Rattle.wr_rules.specs.Named.{is_below_scalar, is_other_policy}

-- a test of what is found, over what is asked
pub any_found : {A B : Type 0} (f : A → Option B) (p : B → Bool) (xs : List A) → list_any (λ x. unwrap_or (option_map p (f x)) false) xs ≡ list_any p (filter_map f xs)
any_found f p [] = refl
any_found f p (x ∷ xs) = elim (f x) as (λ o. (unwrap_or (option_map p o) false || list_any (λ x. unwrap_or (option_map p (f x)) false) xs) ≡ list_any p (cons_option o (filter_map f xs))) [
  | None ↦ any_found f p xs
  | Some y ↦ ap (λ b. p y || b) (any_found f p xs)
]

pub below_scalars : (types : List TypeDef) (kind : List ℕ) (ss : List Scalar) → list_any (is_below_scalar types kind) ss ≡ list_any (is_below types kind) (filter_map text_of_scalar ss)
below_scalars types kind ss = any_found text_of_scalar (is_below types kind) ss

pub other_policies : (r : Repository) (u : List ℕ) (ids : List (List ℕ)) → list_any (is_other_policy r u) ids ≡ list_any (λ x. not (is_a r bases.Policy x)) (read_all r u ids)
other_policies r u ids = any_found (read_named r u) (λ x. not (is_a r bases.Policy x)) ids
