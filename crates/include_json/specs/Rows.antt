-- The JSON of the replies to queries (CMIS 1.1, section 5.2.11).
use Rattle.std.specs.Prelude.{ℕ, List, [], ◌∷◌, codes, map}
use Rattle.serde_json.specs.Data.{Data, boolean, number, unsigned}
use Rattle.json_text.specs.Build.{object_data, list_data}
use Rattle.object_json.specs.Objects.{property_data, values_data}
use Rattle.query_parts.specs.declared.replies.ShownCell.{ShownCell}
use Rattle.query_parts.specs.declared.replies.ShownRow.{ShownRow}
use Rattle.query_parts.specs.declared.replies.ShownRow.TheVariants as rows
use Rattle.query_parts.specs.declared.replies.QueryRow.{QueryRow}
use Rattle.query_parts.specs.declared.replies.QueryReply.{QueryReply}
use Rattle.include_json.specs.Included.{fields_beside}

abbrev pub cell_field : ShownCell → List ℕ × Data
cell_field c = (c.key, property_data c.property)

-- from the keys of the columns to properties
abbrev pub cells_data : List ShownCell → Data
cells_data cs = object_data (map cell_field cs)

-- the columns of a row, in full or in succinct form: there from the keys to values
abbrev pub columns_field : ShownRow → List ℕ × Data
columns_field (rows.Full cells) = (codes "properties", cells_data cells)
columns_field (rows.Succinct slots) = (codes "succinctProperties", values_data slots)

-- a row: its columns, and what is shown beside them
abbrev pub row_data : QueryRow → Data
row_data row = object_data (columns_field row.columns ∷ fields_beside row.beside)

-- a page of rows
unfoldable pub query_data : QueryReply → Data
query_data r = object_data
    ((codes "results", list_data (map row_data r.rows))
    ∷ (codes "hasMoreItems", boolean r.has_more_items)
    ∷ (codes "numItems", number (unsigned r.num_items))
    ∷ [])
