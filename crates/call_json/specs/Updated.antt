-- The JSON of the reply to bulkUpdate (CMIS 1.1, sections 2.2.4.14 and 5.2.11).
use Rattle.std.specs.Prelude.{List, [], ◌∷◌, codes, decimal, map}
use Rattle.serde_json.specs.Data.{Data, string}
use Rattle.json_text.specs.Build.{object_data, list_data}
use Rattle.bulk_parts.specs.declared.replies.UpdatedObject.{UpdatedObject}

-- an update makes no new object, so that the new id is the old one
unfoldable pub updated_data : UpdatedObject → Data
updated_data o = object_data
    ((codes "changeToken", string (decimal o.token))
    ∷ (codes "id", string (decimal o.id.0))
    ∷ (codes "newId", string (decimal o.id.0))
    ∷ [])

-- in the order in which they were changed
abbrev pub updated_objects_data : List UpdatedObject → Data
updated_objects_data os = list_data (map updated_data os)
