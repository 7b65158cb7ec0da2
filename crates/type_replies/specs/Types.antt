-- The JSON of replies on types (CMIS 1.1, sections 5.2.9 and 5.2.11).
use Rattle.std.specs.Prelude.{ℕ, nat_lt, Bool, true, List, [], ◌∷◌, codes, map, if◌then◌else◌}
use Rattle.serde_json.specs.Data.{Data, boolean, number, unsigned}
use Rattle.json_text.specs.Build.{object_data, list_data}
use Rattle.cm_types.specs.declared.definition.TypeDef.{TypeDef}
use Rattle.type_parts.specs.declared.replies.TypeReply.{TypeReply}
use Rattle.type_parts.specs.declared.replies.TypesReply.{TypesReply}
use Rattle.type_parts.specs.declared.replies.TypeRow.{TypeRow}
use Rattle.type_parts.specs.declared.replies.TypeTreeReply.{TypeTreeReply}
use Rattle.type_show.specs.Showing.{type_data}

-- one type, with its property definitions
abbrev pub definition_data : TypeReply → Data
definition_data r = type_data true r.definition

-- a page of types
unfoldable pub types_data : TypesReply → Data
types_data r = object_data
    ((codes "types", list_data (map (type_data r.property_definitions) r.types))
    ∷ (codes "hasMoreItems", boolean r.has_more_items)
    ∷ (codes "numItems", number (unsigned r.num_items))
    ∷ [])

-- ---- trees

-- a tree and the level of its top
abbrev pub Top : Type 0
Top = ℕ × Data

-- a type with the trees below it
unfoldable pub node_data : Bool → TypeDef → List Data → Data
node_data inner t children = object_data
    ((codes "type", type_data inner t)
    ∷ (codes "children", list_data children)
    ∷ [])

-- the trees in front that stand deeper than the level
abbrev pub deeper : ℕ → List Top → List Data
deeper level [] = []
deeper level (t ∷ ts) = if nat_lt level t.0 then t.1 ∷ deeper level ts else []

-- what stands behind them
abbrev pub behind : ℕ → List Top → List Top
behind level [] = []
behind level (t ∷ ts) = if nat_lt level t.0 then behind level ts else t ∷ ts

-- a type before trees: those that stand deeper are below it
abbrev pub with_row : Bool → TypeRow → List Top → List Top
with_row inner row ts = (row.level, node_data inner row.definition (deeper row.level ts)) ∷ behind row.level ts

abbrev pub trees_of : Bool → List TypeRow → List Top
trees_of inner [] = []
trees_of inner (row ∷ rows) = with_row inner row (trees_of inner rows)

-- a type has `children` also where it has no subtypes, or where the depth ends
abbrev pub type_tree_data : TypeTreeReply → Data
type_tree_data r = list_data (map (λ t. t.1) (trees_of r.property_definitions r.rows))
