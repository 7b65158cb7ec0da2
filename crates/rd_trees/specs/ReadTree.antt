-- What stands below a folder, as a tree: all children that the caller reads, or folders alone, with what is shown beside their properties
-- (CMIS 1.1, sections 2.2.3.2 and 2.2.3.3).
use Rattle.std.specs.Prelude.{ℕ, zero, suc, ◌+◌, min, Bool, ◌||◌, not, List, [], ◌∷◌, length, map, filter, Ok}
use Rattle.std.specs.List.{flat_map}
use Rattle.cm_base.specs.declared.number.Oid.{Oid}
use Rattle.cm_base.specs.declared.object.Object.{Object}
use Rattle.cm_base.specs.declared.cause.Cause.TheVariants as causes
use Rattle.cm_base.specs.Judged.{Judged, ◌>>=◌, ◌>>◌, find_or, refuse}
use Rattle.cm_types.specs.declared.definition.BaseType.TheVariants as bases
use Rattle.type_parts.specs.declared.readings.Depth.{Depth}
use Rattle.type_parts.specs.declared.readings.Depth.TheVariants as depths
use Rattle.tree_parts.specs.declared.readings.ReadTree.{ReadTree}
use Rattle.include_parts.specs.declared.readings.ShowTree.{ShowTree}
use Rattle.include_parts.specs.declared.replies.IncludedMember.{IncludedMember}
use Rattle.include_parts.specs.declared.replies.IncludedRow.{IncludedRow}
use Rattle.include_parts.specs.declared.replies.IncludedTreeReply.{IncludedTreeReply}
use Rattle.cm_see.specs.Addressed.{addressed}
use Rattle.cm_include.specs.Included.{included_object}
use Rattle.cmis_spec.specs.Repository.{Repository, is_a, levels_up}
use Rattle.cmis_spec.specs.Access.{children_of}
use Rattle.rd_lists.specs.Folders.{segment_of}
use Rattle.rd_lists.specs.Listed.{is_too_long}

-- an object, and how many of the tree stand above it
abbrev pub Placed : Type 0
Placed = ℕ × Object

-- everything, or folders alone
abbrev pub is_in_tree : Repository → Bool → Object → Bool
is_in_tree r folders_only x = not folders_only || is_a r bases.Folder x

-- what stands right below a folder, in the order of the numbers
abbrev pub right_below : Repository → List ℕ → Bool → Oid → List Object
right_below r u folders_only f = filter (is_in_tree r folders_only) (children_of r u f)

-- objects of one level, each with the tree below it behind it, n levels in all; below what is no folder there is nothing
abbrev pub placed : ℕ → Repository → List ℕ → Bool → ℕ → List Object → List Placed
placed zero r u folders_only level tops = []
placed (suc n) r u folders_only level tops = flat_map (λ x. (level, x) ∷ placed n r u folders_only (level + 1) (right_below r u folders_only x.id)) tops

-- no folder stands deeper than 48 levels below the root, so these are all levels
abbrev pub tree_levels : Depth → ℕ
tree_levels depths.All = levels_up
tree_levels (depths.Levels n) = min n levels_up

-- all that stands below a folder, so many levels deep
abbrev pub all_below : Repository → List ℕ → ReadTree → Oid → List Placed
all_below r u q f = placed (tree_levels q.depth) r u q.folders_only 0 (right_below r u q.folders_only f)

-- an object of the tree as the caller sees it, with its name in the folder where that is asked for
abbrev pub included_node : Repository → List ℕ → ShowTree → Object → IncludedMember
included_node r u q x = record {
  object = included_object r u q.tree.filter q.tree.succinct q.includes x;
  segment = segment_of r q.tree.segments x;
}

abbrev pub included_row : Repository → List ℕ → ShowTree → Placed → IncludedRow
included_row r u q t = record { level = t.0; member = included_node r u q t.1 }

-- an object that stands in several folders of the tree counts in each
abbrev pub tree_reply : Repository → List ℕ → ShowTree → List Placed → Judged IncludedTreeReply
tree_reply r u q ts = do
  refuse (causes.TooMany (length ts)) (is_too_long (length ts))
  Ok (record { rows = map (included_row r u q) ts })

abbrev pub answer_tree_of : Repository → List ℕ → ShowTree → Object → Judged IncludedTreeReply
answer_tree_of r u q x = do
  refuse causes.WrongKind (not (is_a r bases.Folder x))
  tree_reply r u q (all_below r u q.tree x.id)

abbrev pub answer_tree : Repository → List ℕ → ShowTree → Judged IncludedTreeReply
answer_tree r u q = do
  x ← find_or causes.NotFound (addressed r u q.tree.place)
  answer_tree_of r u q x
