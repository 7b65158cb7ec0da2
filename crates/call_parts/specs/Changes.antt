-- The weights of the writes that change an object, its content and its filing.
use Rattle.std.specs.Prelude.{ℕ, [], ◌∷◌, ◌++◌, Some}
use Rattle.std.specs.List.{flat_map}
use Rattle.call_parts.specs.declared.changes.UpdateProperties.{UpdateProperties}
use Rattle.call_parts.specs.declared.changes.MoveObject.{MoveObject}
use Rattle.call_parts.specs.declared.changes.SetContent.{SetContent}
use Rattle.call_parts.specs.declared.changes.AppendContent.{AppendContent}
use Rattle.call_parts.specs.declared.changes.DeleteContent.{DeleteContent}
use Rattle.call_parts.specs.declared.changes.AddToFolder.{AddToFolder}
use Rattle.call_parts.specs.declared.changes.RemoveFromFolder.{RemoveFromFolder}
use Rattle.call_parts.specs.Weight.{texts_of_place, texts_of_given}
use Rattle.call_parts.specs.Versions.{weight_with, maybe, texts_of_stream, bytes_of_stream}

abbrev pub weight_of_update : UpdateProperties → ℕ
weight_of_update call = weight_with
    (texts_of_place call.place ++ flat_map texts_of_given call.properties ++ call.remove_secondary ++ call.add_secondary ++ maybe call.token) 0

abbrev pub weight_of_move : MoveObject → ℕ
weight_of_move call = weight_with (texts_of_place call.place ++ call.source ∷ call.target ∷ []) 0

abbrev pub weight_of_set_content : SetContent → ℕ
weight_of_set_content call = weight_with
    (texts_of_place call.place ++ maybe call.token ++ texts_of_stream (Some call.stream)) (bytes_of_stream (Some call.stream))

abbrev pub weight_of_append : AppendContent → ℕ
weight_of_append call = weight_with
    (texts_of_place call.place ++ maybe call.token ++ texts_of_stream (Some call.stream)) (bytes_of_stream (Some call.stream))

abbrev pub weight_of_delete_content : DeleteContent → ℕ
weight_of_delete_content call = weight_with (texts_of_place call.place ++ maybe call.token) 0

abbrev pub weight_of_add : AddToFolder → ℕ
weight_of_add call = weight_with (texts_of_place call.place ++ call.folder ∷ []) 0

abbrev pub weight_of_remove : RemoveFromFolder → ℕ
weight_of_remove call = weight_with (texts_of_place call.place ++ maybe call.folder) 0
