-- Lists and pages of objects, with what is shown beside their properties (CMIS 1.1, section 2.2).
use Rattle.std.specs.Prelude.{ℕ, List, length, map, Ok}
use Rattle.cm_base.specs.declared.object.Object.{Object}
use Rattle.cm_base.specs.declared.cause.Cause.TheVariants as causes
use Rattle.cm_base.specs.Judged.{Judged, ◌>>◌, refuse}
use Rattle.include_parts.specs.declared.replies.IncludedObject.{IncludedObject}
use Rattle.include_parts.specs.declared.replies.IncludedObjectsReply.{IncludedObjectsReply}
use Rattle.include_parts.specs.declared.replies.IncludedPageReply.{IncludedPageReply}
use Rattle.rd_lists.specs.Listed.{is_too_long}
use Rattle.rd_nav.specs.ReadChildren.{page, has_more}

-- a list that is not cut into pages, each object as it is shown
abbrev pub list_of : (Object → IncludedObject) → List Object → Judged IncludedObjectsReply
list_of shown xs = do
  refuse (causes.TooMany (length xs)) (is_too_long (length xs))
  Ok (record { objects = map shown xs })

-- a page, each object as it is shown; all are counted before the cut
abbrev pub page_of : (Object → IncludedObject) → ℕ → ℕ → List Object → IncludedPageReply
page_of shown skip asked xs = record {
  objects = map shown (page skip asked xs);
  has_more_items = has_more skip asked xs;
  num_items = length xs;
}
