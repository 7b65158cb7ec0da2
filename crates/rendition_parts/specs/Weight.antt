-- The weight of the write on renditions.
use Rattle.std.specs.Prelude.{ℕ, ◌∷◌, ◌++◌, Some}
use Rattle.call_parts.specs.Versions.{weight_with, maybe, texts_of_stream, bytes_of_stream}
use Rattle.call_parts.specs.Weight.{texts_of_place}
use Rattle.rendition_parts.specs.declared.writes.AddRendition.{AddRendition}

abbrev pub weight_of_add_rendition : AddRendition → ℕ
weight_of_add_rendition call = weight_with
    (texts_of_place call.place ++ call.kind ∷ maybe call.title ++ texts_of_stream (Some call.stream)) (bytes_of_stream (Some call.stream))
