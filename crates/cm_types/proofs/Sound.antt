-- The rows of the base types are sound, and so is what a request makes.
use Rattle.std.specs.Prelude.{◌≡◌, ℕ, ℤ, Bool, true, false, ◌||◌, List, [], ◌∷◌, All, Option, None, unwrap_or}
use Rattle.std.specs.List.{list_any}
use Rattle.std.proofs.Common.{refl}
use Rattle.std.proofs.lemmas.Bool.{both_ways}
use Rattle.std.proofs.lemmas.List.Elements.{All-nil, All-cons}
use Rattle.cm_base.specs.declared.value.Scalar.{Scalar}
use Rattle.cm_types.specs.declared.property.PropertyKind.{PropertyKind}
use Rattle.cm_types.specs.declared.property.PropertyKind.TheVariants as kinds
use Rattle.cm_types.specs.declared.property.Cardinality.{Cardinality}
use Rattle.cm_types.specs.declared.property.Cardinality.TheVariants.{Single, Multi}
use Rattle.cm_types.specs.declared.property.Updatability.{Updatability}
use Rattle.cm_types.specs.declared.request.PropRequest.{PropRequest}
use Rattle.cm_types.specs.Changes.{of_kind, default_of, cardinality_of, has_wrong_value, made_prop, made_props}
use Rattle.cm_types.specs.BaseTypes.{prop}
use Rattle.cm_types.specs.Sound.{is_no_empty_list, IsSoundDef}

-- ---- limits

length_again : (kind : PropertyKind) (l : Option ℤ) → of_kind kinds.String kind (of_kind kinds.String kind l) ≡ of_kind kinds.String kind l
length_again kinds.Boolean l = refl
length_again kinds.Integer l = refl
length_again kinds.Datetime l = refl
length_again kinds.String l = refl
length_again kinds.Uri l = refl
length_again kinds.Id l = refl
length_again kinds.Html l = refl

bound_again : (kind : PropertyKind) (l : Option ℤ) → of_kind kinds.Integer kind (of_kind kinds.Integer kind l) ≡ of_kind kinds.Integer kind l
bound_again kinds.Boolean l = refl
bound_again kinds.Integer l = refl
bound_again kinds.Datetime l = refl
bound_again kinds.String l = refl
bound_again kinds.Uri l = refl
bound_again kinds.Id l = refl
bound_again kinds.Html l = refl

no_length : (kind : PropertyKind) → of_kind {A = ℤ} kinds.String kind None ≡ None
no_length kinds.Boolean = refl
no_length kinds.Integer = refl
no_length kinds.Datetime = refl
no_length kinds.String = refl
no_length kinds.Uri = refl
no_length kinds.Id = refl
no_length kinds.Html = refl

no_bound : (kind : PropertyKind) → of_kind {A = ℤ} kinds.Integer kind None ≡ None
no_bound kinds.Boolean = refl
no_bound kinds.Integer = refl
no_bound kinds.Datetime = refl
no_bound kinds.String = refl
no_bound kinds.Uri = refl
no_bound kinds.Id = refl
no_bound kinds.Html = refl

-- ---- rows

faultless : (id : List ℕ) (kind : PropertyKind) (c : Cardinality) (u : Updatability) (required queryable : Bool) → has_wrong_value (prop id kind c u required queryable) ≡ false
faultless id kind Single u required queryable = refl
faultless id kind Multi u required queryable = refl

pub row_is_sound : (id : List ℕ) (kind : PropertyKind) (c : Cardinality) (u : Updatability) (required queryable : Bool) → IsSoundDef (prop id kind c u required queryable)
row_is_sound id kind c u required queryable = record {
  has_no_fault = faultless id kind c u required queryable;
  default_is_no_empty_list = refl;
  max_length_of_kind = no_length kind;
  min_value_of_kind = no_bound kind;
  max_value_of_kind = no_bound kind;
}

-- ---- what a request makes

no_empty_list : (c : Cardinality) (ss : List Scalar) → is_no_empty_list (default_of c ss) ≡ true
no_empty_list c [] = refl
no_empty_list Single (s ∷ ss) = refl
no_empty_list Multi (s ∷ ss) = refl

made_is_sound : (p : PropRequest) → has_wrong_value (made_prop p) ≡ false → IsSoundDef (made_prop p)
made_is_sound p h = record {
  has_no_fault = h;
  default_is_no_empty_list = no_empty_list (cardinality_of p) (unwrap_or p.default []);
  max_length_of_kind = length_again p.kind p.max_length;
  min_value_of_kind = bound_again p.kind p.min_value;
  max_value_of_kind = bound_again p.kind p.max_value;
}

-- the definitions that the rules let pass
pub made_are_sound : (ps : List PropRequest) → list_any has_wrong_value (made_props ps) ≡ false → All IsSoundDef (made_props ps)
made_are_sound [] h = All-nil IsSoundDef
made_are_sound (p ∷ ps) h = All-cons IsSoundDef (made_prop p) (made_props ps) (made_is_sound p (first_not _ _ h)) (made_are_sound ps (second_not _ _ h))
  where
    first_not : (a b : Bool) → a || b ≡ false → a ≡ false
    first_not true b h = h
    first_not false b h = refl

    second_not : (a b : Bool) → a || b ≡ false → b ≡ false
    second_not true b h = absurd (both_ways true h refl)
    second_not false b h = h
