-- The children of a folder, a page of them (CMIS 1.1, section 2.2.3.1).
use Rattle.std.specs.Prelude.{ℕ, ◌+◌, nat_lt, not, min, Bool, List, length, map, take, drop, Ok}
use Rattle.cm_base.specs.declared.object.Object.{Object}
use Rattle.cm_base.specs.declared.cause.Cause.TheVariants as causes
use Rattle.cm_base.specs.Judged.{Judged, ◌>>=◌, ◌>>◌, find_or, refuse}
use Rattle.cm_types.specs.declared.definition.BaseType.TheVariants as bases
use Rattle.call_parts.specs.declared.readings.ReadChildren.{ReadChildren}
use Rattle.call_parts.specs.declared.replies.ChildrenReply.{ChildrenReply}
use Rattle.cm_see.specs.Addressed.{addressed}
use Rattle.cm_see.specs.Shown.{shown_object}
use Rattle.cmis_spec.specs.Repository.{Repository, is_a}
use Rattle.cmis_spec.specs.Access.{children_of}

-- the most items of a page
unfoldable pub most_items : ℕ
most_items = 1000

-- how many items a page has at most; a greater number than 1000 counts as 1000
abbrev pub page_size : ℕ → ℕ
page_size asked = min asked most_items

-- what is left after so many are passed over, cut
abbrev pub page : {A : Type 0} → ℕ → ℕ → List A → List A
page skip asked xs = take (page_size asked) (drop skip xs)

-- items come after the page
abbrev pub has_more : {A : Type 0} → ℕ → ℕ → List A → Bool
has_more skip asked xs = nat_lt (skip + page_size asked) (length xs)

abbrev pub children_reply : Repository → List ℕ → ReadChildren → List Object → ChildrenReply
children_reply r u q children = record {
  objects = map (shown_object r u q.filter q.succinct) (page q.skip_count q.max_items children);
  has_more_items = has_more q.skip_count q.max_items children;
  num_items = length children;
}

-- all that the caller reads is counted before the cut
abbrev pub answer_children_in : Repository → List ℕ → ReadChildren → Object → Judged ChildrenReply
answer_children_in r u q x = do
  refuse causes.WrongKind (not (is_a r bases.Folder x))
  Ok (children_reply r u q (children_of r u x.id))

abbrev pub answer_children : Repository → List ℕ → ReadChildren → Judged ChildrenReply
answer_children r u q = do
  x ← find_or causes.NotFound (addressed r u q.place)
  answer_children_in r u q x
