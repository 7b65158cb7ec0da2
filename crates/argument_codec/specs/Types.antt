-- The encoding of what is asked of a type, attribute for attribute: what isn't asked stays not asked.
use Rattle.std.proofs.Common.{◌≡◌, zero, suc, refl, ap, sym, List, ℕ, ℤ, Bool, Option, Some, None, inl, inr, ◌⊎◌}
use Rattle.cm_base.specs.declared.value.Scalar.{Scalar}
use Rattle.cm_base.specs.declared.value.Scalar.TheVariants.{Flag, Whole, Time, Words}
use Rattle.cm_types.specs.declared.definition.ContentAllowed.{ContentAllowed}
use Rattle.cm_types.specs.declared.definition.ContentAllowed.TheVariants as contents
use Rattle.cm_types.specs.declared.property.PropertyKind.{PropertyKind}
use Rattle.cm_types.specs.declared.property.PropertyKind.TheVariants as kinds
use Rattle.cm_types.specs.declared.property.Cardinality.{Cardinality}
use Rattle.cm_types.specs.declared.property.Cardinality.TheVariants as cardinalities
use Rattle.cm_types.specs.declared.property.Updatability.{Updatability}
use Rattle.cm_types.specs.declared.property.Updatability.TheVariants as may
use Rattle.cm_types.specs.declared.property.Choice.{Choice}
use Rattle.cm_types.specs.declared.request.MutabilityRequest.{MutabilityRequest}
use Rattle.cm_types.specs.declared.request.PropRequest.{PropRequest}
use Rattle.cm_types.specs.declared.request.TypeRequest.{TypeRequest}
use Rattle.byte_codec.specs.Codecs.{Codec}
use Rattle.byte_codec.specs.Parts.{both, via, flag, optional, Places, placed, some_is}
use Rattle.byte_codec.specs.Numbers.{text, signed}
use Rattle.byte_codec.specs.Runs.{list}
use Rattle.byte_codec.specs.Choices.{one, ◌or◌, choice}

-- ---- one of a few, by its place

abbrev pub content_place : ContentAllowed → ℕ
content_place contents.NotAllowed = 0
content_place contents.Allowed = 1
content_place contents.Required = 2

abbrev pub content_at : ℕ → Option ContentAllowed
content_at zero = Some contents.NotAllowed
content_at (suc zero) = Some contents.Allowed
content_at (suc (suc zero)) = Some contents.Required
content_at (suc (suc (suc n))) = None

content_back : (n : ℕ) (x : ContentAllowed) → content_at n ≡ Some x → content_place x ≡ n
content_back zero x e = ap content_place (sym (some_is contents.NotAllowed x e))
content_back (suc zero) x e = ap content_place (sym (some_is contents.Allowed x e))
content_back (suc (suc zero)) x e = ap content_place (sym (some_is contents.Required x e))
content_back (suc (suc (suc n))) x e = absurd cc

pub content_places : Places content_place content_at
content_places = record { forth = elim [ contents.NotAllowed ↦ refl | contents.Allowed ↦ refl | contents.Required ↦ refl ]; back = content_back }

abbrev pub content : Codec ContentAllowed
content = placed content_place content_at content_places

abbrev pub kind_place : PropertyKind → ℕ
kind_place kinds.Boolean = 0
kind_place kinds.Integer = 1
kind_place kinds.Datetime = 2
kind_place kinds.String = 3
kind_place kinds.Uri = 4
kind_place kinds.Id = 5
kind_place kinds.Html = 6

abbrev pub kind_at : ℕ → Option PropertyKind
kind_at zero = Some kinds.Boolean
kind_at (suc zero) = Some kinds.Integer
kind_at (suc (suc zero)) = Some kinds.Datetime
kind_at (suc (suc (suc zero))) = Some kinds.String
kind_at (suc (suc (suc (suc zero)))) = Some kinds.Uri
kind_at (suc (suc (suc (suc (suc zero))))) = Some kinds.Id
kind_at (suc (suc (suc (suc (suc (suc zero)))))) = Some kinds.Html
kind_at (suc (suc (suc (suc (suc (suc (suc n))))))) = None

kind_back : (n : ℕ) (x : PropertyKind) → kind_at n ≡ Some x → kind_place x ≡ n
kind_back zero x e = ap kind_place (sym (some_is kinds.Boolean x e))
kind_back (suc zero) x e = ap kind_place (sym (some_is kinds.Integer x e))
kind_back (suc (suc zero)) x e = ap kind_place (sym (some_is kinds.Datetime x e))
kind_back (suc (suc (suc zero))) x e = ap kind_place (sym (some_is kinds.String x e))
kind_back (suc (suc (suc (suc zero)))) x e = ap kind_place (sym (some_is kinds.Uri x e))
kind_back (suc (suc (suc (suc (suc zero))))) x e = ap kind_place (sym (some_is kinds.Id x e))
kind_back (suc (suc (suc (suc (suc (suc zero)))))) x e = ap kind_place (sym (some_is kinds.Html x e))
kind_back (suc (suc (suc (suc (suc (suc (suc n))))))) x e = absurd cc

pub kind_places : Places kind_place kind_at
kind_places = record { forth = elim [ kinds.Boolean ↦ refl | kinds.Integer ↦ refl | kinds.Datetime ↦ refl | kinds.String ↦ refl | kinds.Uri ↦ refl | kinds.Id ↦ refl | kinds.Html ↦ refl ]; back = kind_back }

abbrev pub kind : Codec PropertyKind
kind = placed kind_place kind_at kind_places

abbrev pub cardinality_place : Cardinality → ℕ
cardinality_place cardinalities.Single = 0
cardinality_place cardinalities.Multi = 1

abbrev pub cardinality_at : ℕ → Option Cardinality
cardinality_at zero = Some cardinalities.Single
cardinality_at (suc zero) = Some cardinalities.Multi
cardinality_at (suc (suc n)) = None

cardinality_back : (n : ℕ) (x : Cardinality) → cardinality_at n ≡ Some x → cardinality_place x ≡ n
cardinality_back zero x e = ap cardinality_place (sym (some_is cardinalities.Single x e))
cardinality_back (suc zero) x e = ap cardinality_place (sym (some_is cardinalities.Multi x e))
cardinality_back (suc (suc n)) x e = absurd cc

pub cardinality_places : Places cardinality_place cardinality_at
cardinality_places = record { forth = elim [ cardinalities.Single ↦ refl | cardinalities.Multi ↦ refl ]; back = cardinality_back }

abbrev pub cardinality : Codec Cardinality
cardinality = placed cardinality_place cardinality_at cardinality_places

abbrev pub updatability_place : Updatability → ℕ
updatability_place may.ReadOnly = 0
updatability_place may.ReadWrite = 1
updatability_place may.OnCreate = 2
updatability_place may.WhenCheckedOut = 3

abbrev pub updatability_at : ℕ → Option Updatability
updatability_at zero = Some may.ReadOnly
updatability_at (suc zero) = Some may.ReadWrite
updatability_at (suc (suc zero)) = Some may.OnCreate
updatability_at (suc (suc (suc zero))) = Some may.WhenCheckedOut
updatability_at (suc (suc (suc (suc n)))) = None

updatability_back : (n : ℕ) (x : Updatability) → updatability_at n ≡ Some x → updatability_place x ≡ n
updatability_back zero x e = ap updatability_place (sym (some_is may.ReadOnly x e))
updatability_back (suc zero) x e = ap updatability_place (sym (some_is may.ReadWrite x e))
updatability_back (suc (suc zero)) x e = ap updatability_place (sym (some_is may.OnCreate x e))
updatability_back (suc (suc (suc zero))) x e = ap updatability_place (sym (some_is may.WhenCheckedOut x e))
updatability_back (suc (suc (suc (suc n)))) x e = absurd cc

pub updatability_places : Places updatability_place updatability_at
updatability_places = record { forth = elim [ may.ReadOnly ↦ refl | may.ReadWrite ↦ refl | may.OnCreate ↦ refl | may.WhenCheckedOut ↦ refl ]; back = updatability_back }

abbrev pub updatability : Codec Updatability
updatability = placed updatability_place updatability_at updatability_places

-- ---- scalars and choices

abbrev pub scalar_parts : Scalar → (Bool ⊎ ℤ) ⊎ (ℤ ⊎ List ℕ)
scalar_parts (Flag b) = inl (inl b)
scalar_parts (Whole z) = inl (inr z)
scalar_parts (Time z) = inr (inl z)
scalar_parts (Words t) = inr (inr t)

abbrev pub scalar_of : (Bool ⊎ ℤ) ⊎ (ℤ ⊎ List ℕ) → Scalar
scalar_of (inl (inl b)) = Flag b
scalar_of (inl (inr z)) = Whole z
scalar_of (inr (inl z)) = Time z
scalar_of (inr (inr t)) = Words t

pub scalar_forth : (s : Scalar) → scalar_of (scalar_parts s) ≡ s
scalar_forth (Flag b) = refl
scalar_forth (Whole z) = refl
scalar_forth (Time z) = refl
scalar_forth (Words t) = refl

pub scalar_back : (s : (Bool ⊎ ℤ) ⊎ (ℤ ⊎ List ℕ)) → scalar_parts (scalar_of s) ≡ s
scalar_back (inl (inl b)) = refl
scalar_back (inl (inr z)) = refl
scalar_back (inr (inl z)) = refl
scalar_back (inr (inr t)) = refl

abbrev pub scalar : Codec Scalar
scalar = via scalar_parts scalar_of scalar_forth scalar_back (choice ((one flag or one signed) or (one signed or one text)))

abbrev pub offered : Codec Choice
offered = via (λ c. (c.display_name, c.value)) (λ t. record { display_name = t.0; value = t.1 }) (λ c. refl) (λ t. refl) (both text scalar)

-- ---- definitions that are asked for

abbrev pub named : Codec (Option (List ℕ) × (Option (List ℕ) × (Option (List ℕ) × (Option (List ℕ) × Option (List ℕ)))))
named = both (optional text) (both (optional text) (both (optional text) (both (optional text) (optional text))))

abbrev pub prop_request : Codec PropRequest
prop_request = via (λ c. (c.id, ((c.local_name, (c.local_namespace, (c.display_name, (c.query_name, c.description)))), ((c.kind, (c.cardinality, c.updatability)), ((c.required, (c.queryable, (c.orderable, c.open_choice))), ((c.choices, c.default), (c.max_length, (c.min_value, c.max_value))))))))
    (λ t. record { id = t.0; local_name = t.1.0.0; local_namespace = t.1.0.1.0; display_name = t.1.0.1.1.0; query_name = t.1.0.1.1.1.0; description = t.1.0.1.1.1.1; kind = t.1.1.0.0; cardinality = t.1.1.0.1.0; updatability = t.1.1.0.1.1; required = t.1.1.1.0.0; queryable = t.1.1.1.0.1.0; orderable = t.1.1.1.0.1.1.0; open_choice = t.1.1.1.0.1.1.1; choices = t.1.1.1.1.0.0; default = t.1.1.1.1.0.1; max_length = t.1.1.1.1.1.0; min_value = t.1.1.1.1.1.1.0; max_value = t.1.1.1.1.1.1.1 }) (λ c. refl) (λ t. refl)
    (both text (both named (both (both kind (both (optional cardinality) (optional updatability))) (both (both (optional flag) (both (optional flag) (both (optional flag) (optional flag)))) (both (both (optional (list offered)) (optional (list scalar))) (both (optional signed) (both (optional signed) (optional signed))))))))

abbrev pub mutability : Codec MutabilityRequest
mutability = via (λ c. (c.create, (c.update, c.delete)))
    (λ t. record { create = t.0; update = t.1.0; delete = t.1.1 }) (λ c. refl) (λ t. refl)
    (both (optional flag) (both (optional flag) (optional flag)))

abbrev pub type_request : Codec TypeRequest
type_request = via (λ c. ((c.id, (c.base, c.parent)), ((c.local_name, (c.local_namespace, (c.display_name, (c.query_name, c.description)))), ((c.creatable, (c.fileable, (c.queryable, (c.fulltext_indexed, c.included_in_supertype_query)))), ((c.controllable_policy, (c.controllable_acl, c.mutability)), ((c.versionable, (c.content_allowed, (c.allowed_source_types, c.allowed_target_types))), c.properties))))))
    (λ t. record { id = t.0.0; base = t.0.1.0; parent = t.0.1.1; local_name = t.1.0.0; local_namespace = t.1.0.1.0; display_name = t.1.0.1.1.0; query_name = t.1.0.1.1.1.0; description = t.1.0.1.1.1.1; creatable = t.1.1.0.0; fileable = t.1.1.0.1.0; queryable = t.1.1.0.1.1.0; fulltext_indexed = t.1.1.0.1.1.1.0; included_in_supertype_query = t.1.1.0.1.1.1.1; controllable_policy = t.1.1.1.0.0; controllable_acl = t.1.1.1.0.1.0; mutability = t.1.1.1.0.1.1; versionable = t.1.1.1.1.0.0; content_allowed = t.1.1.1.1.0.1.0; allowed_source_types = t.1.1.1.1.0.1.1.0; allowed_target_types = t.1.1.1.1.0.1.1.1; properties = t.1.1.1.1.1 }) (λ c. refl) (λ t. refl)
    (both (both text (both text (optional text))) (both named (both (both (optional flag) (both (optional flag) (both (optional flag) (both (optional flag) (optional flag))))) (both (both (optional flag) (both (optional flag) mutability)) (both (both (optional flag) (both (optional content) (both (optional (list text)) (optional (list text))))) (list prop_request))))))
