-- The JSON of renditions (CMIS 1.1, sections 2.1.4.2 and 5.2.11).
use Rattle.std.specs.Prelude.{ℕ, List, [], ◌∷◌, codes, decimal, map, Option, Some, None}
use Rattle.serde_json.specs.Data.{Data, null, number, string, unsigned}
use Rattle.json_text.specs.Build.{object_data, list_data}
use Rattle.rendition_parts.specs.declared.replies.ShownRendition.{ShownRendition}
use Rattle.rendition_parts.specs.declared.replies.RenditionsReply.{RenditionsReply}

-- null where it has none
abbrev pub title_data : Option (List ℕ) → Data
title_data None = null
title_data (Some title) = string title

unfoldable pub rendition_data : ShownRendition → Data
rendition_data d = object_data
    ((codes "streamId", string (decimal d.stream_id.0))
    ∷ (codes "mimeType", string d.mime_type)
    ∷ (codes "length", number (unsigned d.length))
    ∷ (codes "kind", string d.kind)
    ∷ (codes "title", title_data d.title)
    ∷ [])

-- renditions in their order
abbrev pub renditions_data : List ShownRendition → Data
renditions_data ds = list_data (map rendition_data ds)

abbrev pub reply_data : RenditionsReply → Data
reply_data r = renditions_data r.renditions
