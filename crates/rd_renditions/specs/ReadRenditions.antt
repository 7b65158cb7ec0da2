-- The renditions of an object, a page of them (CMIS 1.1, section 2.2.4.12).
use Rattle.std.specs.Prelude.{ℕ, List, map, Ok}
use Rattle.cm_base.specs.declared.content.Rendition.{Rendition}
use Rattle.cm_base.specs.declared.cause.Cause.TheVariants as causes
use Rattle.cm_base.specs.Judged.{Judged, ◌>>=◌, find_or}
use Rattle.rendition_parts.specs.declared.readings.ReadRenditions.{ReadRenditions}
use Rattle.rendition_parts.specs.declared.replies.RenditionsReply.{RenditionsReply}
use Rattle.cm_see.specs.Addressed.{addressed}
use Rattle.cmis_spec.specs.Repository.{Repository}
use Rattle.cm_renditions.specs.Shown.{kept_renditions, shown_rendition}
use Rattle.rd_nav.specs.ReadChildren.{page}

abbrev pub renditions_reply : ReadRenditions → List Rendition → RenditionsReply
renditions_reply q kept = record { renditions = map shown_rendition (page q.skip_count q.max_items kept) }

-- those that the filter keeps, in the order of their numbers, cut
abbrev pub answer_renditions : Repository → List ℕ → ReadRenditions → Judged RenditionsReply
answer_renditions r u q = do
  x ← find_or causes.NotFound (addressed r u q.place)
  Ok (renditions_reply q (kept_renditions r q.filter x))
