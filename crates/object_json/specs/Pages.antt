-- The JSON of pages of objects (CMIS 1.1, section 5.2.11).
use Rattle.std.specs.Prelude.{[], ◌∷◌, codes, map}
use Rattle.serde_json.specs.Data.{Data, boolean, number, unsigned}
use Rattle.json_text.specs.Build.{object_data, list_data}
use Rattle.call_parts.specs.declared.replies.ShownObject.{ShownObject}
use Rattle.call_parts.specs.declared.replies.ChildrenReply.{ChildrenReply}
use Rattle.object_json.specs.Objects.{shown_data}

-- a child of a folder
abbrev pub child_data : ShownObject → Data
child_data o = object_data ((codes "object", shown_data o) ∷ [])

-- a page of children
unfoldable pub children_data : ChildrenReply → Data
children_data r = object_data
    ((codes "objects", list_data (map child_data r.objects))
    ∷ (codes "hasMoreItems", boolean r.has_more_items)
    ∷ (codes "numItems", number (unsigned r.num_items))
    ∷ [])
