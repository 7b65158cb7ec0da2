-- The weights of the writes on types.
use Rattle.std.specs.Prelude.{ℕ, List, [], ◌∷◌, ◌++◌, unwrap_or, Option}
use Rattle.std.specs.List.{flat_map}
use Rattle.cm_base.specs.declared.value.Scalar.{Scalar}
use Rattle.cm_types.specs.declared.property.Choice.{Choice}
use Rattle.cm_types.specs.declared.request.PropRequest.{PropRequest}
use Rattle.cm_types.specs.declared.request.TypeRequest.{TypeRequest}
use Rattle.cm_types.specs.Properties.{text_of_scalar}
use Rattle.call_parts.specs.Versions.{weight_with, maybe}
use Rattle.type_change_parts.specs.declared.writes.CreateType.{CreateType}
use Rattle.type_change_parts.specs.declared.writes.UpdateType.{UpdateType}
use Rattle.type_change_parts.specs.declared.writes.DeleteType.{DeleteType}

-- ---- the texts of a definition: each attribute that is a text, where it is given

abbrev pub given : {A : Type 0} → Option (List A) → List A
given items = unwrap_or items []

abbrev pub texts_of_scalar : Scalar → List (List ℕ)
texts_of_scalar s = maybe (text_of_scalar s)

abbrev pub texts_of_choice : Choice → List (List ℕ)
texts_of_choice c = c.display_name ∷ texts_of_scalar c.value

unfoldable pub texts_of_prop_names : PropRequest → List (List ℕ)
texts_of_prop_names p =
    p.id ∷ maybe p.local_name ++ maybe p.local_namespace ++ maybe p.display_name ++ maybe p.query_name ++ maybe p.description

abbrev pub texts_of_prop : PropRequest → List (List ℕ)
texts_of_prop p = texts_of_prop_names p ++ flat_map texts_of_choice (given p.choices) ++ flat_map texts_of_scalar (given p.default)

unfoldable pub texts_of_type_names : TypeRequest → List (List ℕ)
texts_of_type_names q =
    q.id ∷ q.base ∷ maybe q.parent
    ++ maybe q.local_name
    ++ maybe q.local_namespace
    ++ maybe q.display_name
    ++ maybe q.query_name
    ++ maybe q.description

abbrev pub texts_of_type : TypeRequest → List (List ℕ)
texts_of_type q = texts_of_type_names q ++ given q.allowed_source_types ++ given q.allowed_target_types ++ flat_map texts_of_prop q.properties

-- ---- the weights

abbrev pub weight_of_create_type : CreateType → ℕ
weight_of_create_type call = weight_with (texts_of_type call.definition) 0

abbrev pub weight_of_update_type : UpdateType → ℕ
weight_of_update_type call = weight_with (texts_of_type call.definition) 0

abbrev pub weight_of_delete_type : DeleteType → ℕ
weight_of_delete_type call = weight_with (call.type_id ∷ []) 0
