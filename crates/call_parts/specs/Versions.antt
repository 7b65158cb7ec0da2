-- The weights of the writes on documents and their version series.
use Rattle.std.specs.Prelude.{ℕ, ◌+◌, List, [], ◌∷◌, ◌++◌, length, Option, Some, None, unwrap_or, option_map}
use Rattle.std.specs.List.{flat_map}
use Rattle.call_parts.specs.declared.stream.GivenStream.{GivenStream}
use Rattle.call_parts.specs.declared.versions.CreateDocument.{CreateDocument}
use Rattle.call_parts.specs.declared.versions.CheckOut.{CheckOut}
use Rattle.call_parts.specs.declared.versions.CancelCheckOut.{CancelCheckOut}
use Rattle.call_parts.specs.declared.versions.CheckIn.{CheckIn}
use Rattle.call_parts.specs.declared.versions.Delete.{Delete}
use Rattle.call_parts.specs.Weight.{texts_of_place, texts_of_given, texts_of_ace, weight_of_texts, bounded}

-- 64 for the call, its texts, and the bytes of its stream
abbrev pub weight_with : List (List ℕ) → ℕ → ℕ
weight_with texts bytes = bounded (64 + weight_of_texts texts + bytes)

abbrev pub maybe : Option (List ℕ) → List (List ℕ)
maybe None = []
maybe (Some text) = text ∷ []

-- its kind, and its file name where it is given
abbrev pub texts_of_stream : Option GivenStream → List (List ℕ)
texts_of_stream None = []
texts_of_stream (Some s) = s.kind ∷ maybe s.file

abbrev pub bytes_of_stream : Option GivenStream → ℕ
bytes_of_stream s = unwrap_or (option_map (λ s. length s.pieces) s) 0

abbrev pub weight_of_create_document : CreateDocument → ℕ
weight_of_create_document call = weight_with
    (unwrap_or (option_map texts_of_place call.place) []
    ++ flat_map texts_of_given call.properties
    ++ call.policies
    ++ flat_map texts_of_ace call.remove
    ++ flat_map texts_of_ace call.add
    ++ texts_of_stream call.stream) (bytes_of_stream call.stream)

abbrev pub weight_of_check_out : CheckOut → ℕ
weight_of_check_out call = weight_with (texts_of_place call.place) 0

abbrev pub weight_of_cancel : CancelCheckOut → ℕ
weight_of_cancel call = weight_with (texts_of_place call.place) 0

abbrev pub weight_of_check_in : CheckIn → ℕ
weight_of_check_in call = weight_with
    (texts_of_place call.place ++ maybe call.comment ++ flat_map texts_of_given call.properties ++ texts_of_stream call.stream) (bytes_of_stream call.stream)

abbrev pub weight_of_delete : Delete → ℕ
weight_of_delete call = weight_with (texts_of_place call.place) 0
