-- Types: the definition of one, a page of those right below one, and the tree below one (CMIS 1.1, sections 2.2.2.3 to 2.2.2.5).
-- Everybody sees all types.
use Rattle.std.specs.Prelude.{ℕ, false, List, length, Ok}
use Rattle.cm_base.specs.declared.cause.Cause.TheVariants as causes
use Rattle.cm_base.specs.Judged.{Judged, ◌>>=◌, ◌>>◌, find_or, refuse}
use Rattle.cm_types.specs.declared.definition.TypeDef.{TypeDef}
use Rattle.cm_types.specs.Types.{type_in}
use Rattle.type_parts.specs.declared.readings.ReadTypeDefinition.{ReadTypeDefinition}
use Rattle.type_parts.specs.declared.readings.ReadTypeChildren.{ReadTypeChildren}
use Rattle.type_parts.specs.declared.readings.ReadTypeDescendants.{ReadTypeDescendants}
use Rattle.type_parts.specs.declared.replies.TypeReply.{TypeReply}
use Rattle.type_parts.specs.declared.replies.TypesReply.{TypesReply}
use Rattle.type_parts.specs.declared.replies.TypeTreeReply.{TypeTreeReply}
use Rattle.type_tree.specs.Trees.{names_none, types_below, tree_below}
use Rattle.cmis_spec.specs.Repository.{Repository}
use Rattle.rd_nav.specs.ReadChildren.{page, has_more}

abbrev pub answer_type_definition : Repository → List ℕ → ReadTypeDefinition → Judged TypeReply
answer_type_definition r u q = do
  t ← find_or causes.TypeNotFound (type_in r.types q.type_id)
  Ok (record { definition = t; created = false })

abbrev pub types_reply : ReadTypeChildren → List TypeDef → TypesReply
types_reply q types = record {
  types = page q.skip_count q.max_items types;
  property_definitions = q.property_definitions;
  has_more_items = has_more q.skip_count q.max_items types;
  num_items = length types;
}

-- all are counted before the cut
abbrev pub answer_type_children : Repository → List ℕ → ReadTypeChildren → Judged TypesReply
answer_type_children r u q = do
  refuse causes.TypeNotFound (names_none r.types q.type_id)
  Ok (types_reply q (types_below r.types q.type_id))

abbrev pub tree_reply : List TypeDef → ReadTypeDescendants → TypeTreeReply
tree_reply types q = record { rows = tree_below types q.type_id q.depth; property_definitions = q.property_definitions }

abbrev pub answer_type_descendants : Repository → List ℕ → ReadTypeDescendants → Judged TypeTreeReply
answer_type_descendants r u q = do
  refuse causes.TypeNotFound (names_none r.types q.type_id)
  Ok (tree_reply r.types q)
