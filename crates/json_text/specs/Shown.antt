-- What built values stand for.
use Rattle.std.specs.Prelude.{List, map}
use Rattle.serde_json.specs.Data.{Data, Members}
use Rattle.serde_json.specs.View.{view, members_view}
use Rattle.json_text.specs.declared.tree.Json.{Json}
use Rattle.json_text.specs.declared.tree.Fields.{Fields}
use Rattle.json_text.specs.declared.tree.Elements.{Elements}

abbrev pub data_of : Json → Data
data_of j = view j.value

abbrev pub fields_of : Fields → Members
fields_of f = members_view f.map.entries

abbrev pub listed : Elements → List Data
listed e = map view e.list.items
