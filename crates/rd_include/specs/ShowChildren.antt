-- The children of a folder, a page of them, with what is shown beside their properties (CMIS 1.1, section 2.2.3.1).
use Rattle.std.specs.Prelude.{ℕ, not, List, length, map, Ok}
use Rattle.cm_base.specs.declared.number.Oid.{Oid}
use Rattle.cm_base.specs.declared.object.Object.{Object}
use Rattle.cm_base.specs.declared.cause.Cause.TheVariants as causes
use Rattle.cm_base.specs.Judged.{Judged, ◌>>=◌, ◌>>◌, find_or, refuse}
use Rattle.cm_types.specs.declared.definition.BaseType.TheVariants as bases
use Rattle.include_parts.specs.declared.readings.ShowChildren.{ShowChildren}
use Rattle.include_parts.specs.declared.replies.IncludedMember.{IncludedMember}
use Rattle.include_parts.specs.declared.replies.IncludedChildrenReply.{IncludedChildrenReply}
use Rattle.cmis_spec.specs.Repository.{Repository, is_a}
use Rattle.cmis_spec.specs.Access.{children_of}
use Rattle.cm_see.specs.Addressed.{addressed}
use Rattle.cm_include.specs.Included.{included_object}
use Rattle.rd_lists.specs.Folders.{segment_of}
use Rattle.rd_nav.specs.ReadChildren.{page, has_more}
use Rattle.rd_order.specs.Ordered.{ordered}

-- a child as the caller sees it, with its name in the folder where that is asked for
abbrev pub included_child : Repository → List ℕ → ShowChildren → Object → IncludedMember
included_child r u q x = record {
  object = included_object r u q.children.filter q.children.succinct q.includes x;
  segment = segment_of r q.segments x;
}

-- all are counted before the cut
abbrev pub included_children : Repository → List ℕ → ShowChildren → List Object → IncludedChildrenReply
included_children r u q xs = record {
  children = map (included_child r u q) (page q.children.skip_count q.children.max_items xs);
  has_more_items = has_more q.children.skip_count q.children.max_items xs;
  num_items = length xs;
}

-- those of a folder, in the order that is asked for
abbrev pub answer_ordered_children : Repository → List ℕ → ShowChildren → Oid → Judged IncludedChildrenReply
answer_ordered_children r u q f = do
  xs ← ordered r u q.order (children_of r u f)
  Ok (included_children r u q xs)

abbrev pub answer_show_children_in : Repository → List ℕ → ShowChildren → Object → Judged IncludedChildrenReply
answer_show_children_in r u q x = do
  refuse causes.WrongKind (not (is_a r bases.Folder x))
  answer_ordered_children r u q x.id

abbrev pub answer_show_children : Repository → List ℕ → ShowChildren → Judged IncludedChildrenReply
answer_show_children r u q = do
  x ← find_or causes.NotFound (addressed r u q.children.place)
  answer_show_children_in r u q x
