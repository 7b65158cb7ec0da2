-- The working copies that the caller reads, a page of them, with what is shown beside their properties (CMIS 1.1, section 2.2.3.6).
use Rattle.std.specs.Prelude.{ℕ, Bool, true, ◌&&◌, not, List, filter, Option, Some, None, is_some, Ok}
use Rattle.cm_base.specs.declared.number.Oid.{Oid}
use Rattle.cm_base.specs.declared.object.Object.{Object}
use Rattle.cm_base.specs.declared.cause.Cause.TheVariants as causes
use Rattle.cm_base.specs.Judged.{Judged, ◌>>=◌, ◌>>◌, find_or, refuse}
use Rattle.cm_types.specs.declared.definition.BaseType.TheVariants as bases
use Rattle.call_parts.specs.declared.place.Place.{Place}
use Rattle.include_parts.specs.declared.readings.ShowCheckedOut.{ShowCheckedOut}
use Rattle.include_parts.specs.declared.replies.IncludedObject.{IncludedObject}
use Rattle.include_parts.specs.declared.replies.IncludedPageReply.{IncludedPageReply}
use Rattle.cm_see.specs.Addressed.{addressed}
use Rattle.cm_include.specs.Included.{included_object}
use Rattle.cmis_spec.specs.Repository.{Repository, is_a, is_filed, entry_of, owner_of}
use Rattle.cmis_spec.specs.Access.{reads}
use Rattle.rd_include.specs.Listed.{page_of}
use Rattle.rd_order.specs.Ordered.{ordered}

-- the object's series is filed in the folder, where one is named
abbrev pub is_filed_at : Repository → Option Oid → Object → Bool
is_filed_at r None x = true
is_filed_at r (Some f) x = is_filed r f (entry_of x)

-- a working copy, whose series is filed in the folder where one is named
abbrev pub is_copy : Repository → Option Oid → Object → Bool
is_copy r folder x = is_some (owner_of r x) && is_filed_at r folder x

-- those that the caller reads, in the order of their numbers
abbrev pub copies : Repository → List ℕ → Option Oid → List Object
copies r u folder = filter (λ x. is_copy r folder x && reads r u x) r.objects

-- a working copy as the caller sees it
abbrev pub included_copy : Repository → List ℕ → ShowCheckedOut → Object → IncludedObject
included_copy r u q x = included_object r u q.checked_out.filter q.checked_out.succinct q.includes x

abbrev pub page_reply : Repository → List ℕ → ShowCheckedOut → List Object → IncludedPageReply
page_reply r u q xs = page_of (included_copy r u q) q.checked_out.skip_count q.checked_out.max_items xs

-- in the order that is asked for, before the cut
abbrev pub answer_ordered_copies : Repository → List ℕ → ShowCheckedOut → Option Oid → Judged IncludedPageReply
answer_ordered_copies r u q folder = do
  xs ← ordered r u q.order (copies r u folder)
  Ok (page_reply r u q xs)

abbrev pub answer_checked_out_in : Repository → List ℕ → ShowCheckedOut → Object → Judged IncludedPageReply
answer_checked_out_in r u q x = do
  refuse causes.WrongKind (not (is_a r bases.Folder x))
  answer_ordered_copies r u q (Some x.id)

-- in a folder, or in the whole repository
abbrev pub answer_checked_out_at : Repository → List ℕ → ShowCheckedOut → Option Place → Judged IncludedPageReply
answer_checked_out_at r u q None = answer_ordered_copies r u q None
answer_checked_out_at r u q (Some place) = find_or causes.NotFound (addressed r u place) >>= answer_checked_out_in r u q

abbrev pub answer_checked_out : Repository → List ℕ → ShowCheckedOut → Judged IncludedPageReply
answer_checked_out r u q = answer_checked_out_at r u q q.checked_out.place
