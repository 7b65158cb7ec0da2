-- The JSON of the objects that a deleteTree leaves (CMIS 1.1, section 2.2.4.17.2).
use Rattle.std.specs.Prelude.{[], ◌∷◌, codes, decimal, map}
use Rattle.serde_json.specs.Data.{Data, string}
use Rattle.json_text.specs.Build.{object_data, list_data}
use Rattle.cm_base.specs.declared.number.Oid.{Oid}
use Rattle.delete_tree_parts.specs.declared.replies.DeleteTreeReply.{DeleteTreeReply}

abbrev pub id_data : Oid → Data
id_data n = string (decimal n.0)

-- the ids of the objects that are left in the tree
unfoldable pub left_data : DeleteTreeReply → Data
left_data r = object_data ((codes "ids", list_data (map id_data r.ids)) ∷ [])
