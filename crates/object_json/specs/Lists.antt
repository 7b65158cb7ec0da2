-- The JSON of lists of objects that are not cut into pages (CMIS 1.1, section 5.2.11).
use Rattle.std.specs.Prelude.{map}
use Rattle.serde_json.specs.Data.{Data}
use Rattle.json_text.specs.Build.{list_data}
use Rattle.call_parts.specs.declared.replies.ObjectsReply.{ObjectsReply}
use Rattle.object_json.specs.Objects.{shown_data}

-- an array of objects
abbrev pub objects_data : ObjectsReply → Data
objects_data r = list_data (map shown_data r.objects)
