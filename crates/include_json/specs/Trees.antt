-- The JSON of trees of objects (CMIS 1.1, section 5.2.11).
use Rattle.std.specs.Prelude.{ℕ, List, [], ◌∷◌, codes, map}
use Rattle.serde_json.specs.Data.{Data}
use Rattle.json_text.specs.Build.{object_data, list_data}
use Rattle.include_parts.specs.declared.replies.IncludedMember.{IncludedMember}
use Rattle.include_parts.specs.declared.replies.IncludedRow.{IncludedRow}
use Rattle.include_parts.specs.declared.replies.IncludedTreeReply.{IncludedTreeReply}
use Rattle.include_json.specs.Pages.{member_data}
use Rattle.type_replies.specs.Types.{Top, deeper, behind}

-- the trees below an object, where there are any
abbrev pub children_fields : List Data → List (List ℕ × Data)
children_fields [] = []
children_fields (t ∷ ts) = (codes "children", list_data (t ∷ ts)) ∷ []

-- an object in its folder, with the trees below it
unfoldable pub object_node : IncludedMember → List Data → Data
object_node member below = object_data ((codes "object", member_data (codes "pathSegment") member) ∷ children_fields below)

-- an object before trees: those that stand deeper are below it
abbrev pub with_member : IncludedRow → List Top → List Top
with_member row ts = (row.level, object_node row.member (deeper row.level ts)) ∷ behind row.level ts

abbrev pub trees_in : List IncludedRow → List Top
trees_in [] = []
trees_in (row ∷ rows) = with_member row (trees_in rows)

-- what stands below the folder, each with what stands below it
abbrev pub tree_data : IncludedTreeReply → Data
tree_data r = list_data (map (λ t. t.1) (trees_in r.rows))
