-- addRendition, an action of this repository's own: when it is refused, what it makes of the repository, and what it answers.
use Rattle.std.specs.Prelude.{ℕ, ◌+◌, false, not, List, [], ◌∷◌, ◌++◌, unwrap_or, option_map}
use Rattle.cm_base.specs.declared.number.Moment.{Moment}
use Rattle.cm_base.specs.declared.object.Object.{Object}
use Rattle.cm_base.specs.declared.content.Rendition.{Rendition}
use Rattle.cm_base.specs.declared.access.Level.TheVariants as levels
use Rattle.cm_base.specs.declared.log.ChangeKind.TheVariants as changes
use Rattle.cm_base.specs.declared.cause.Cause.TheVariants as causes
use Rattle.cm_base.specs.Judged.{Judged, ◌>>=◌, ◌>>◌, refuse, find_or}
use Rattle.cm_types.specs.declared.definition.BaseType.TheVariants as bases
use Rattle.call_parts.specs.declared.readings.PropertyFilter.TheVariants as filters
use Rattle.call_parts.specs.declared.replies.ObjectReply.{ObjectReply}
use Rattle.rendition_parts.specs.declared.writes.AddRendition.{AddRendition}
use Rattle.rendition_parts.specs.Weight.{weight_of_add_rendition}
use Rattle.cm_see.specs.Addressed.{addressed}
use Rattle.cm_see.specs.Shown.{shown_object}
use Rattle.cmis_spec.specs.Repository.{Repository, new_number, root_folder, is_a}
use Rattle.cmis_spec.specs.Access.{lacks}
use Rattle.cmis_spec.specs.Changes.{stepped, noted}
use Rattle.wr_rules.specs.Documents.{is_too_long}
use Rattle.wr_rules.specs.Rules.{judge_storage}

abbrev pub cost_add_rendition : AddRendition → ℕ
cost_add_rendition call = weight_of_add_rendition call

-- ---- the refusal

-- the caller may change it, it is a document, and the rendition is not longer than content may be; a document that may not be changed
-- takes renditions too, and so does one whose type allows no content
abbrev pub judge_addition : Repository → List ℕ → AddRendition → Object → Judged (Unit {0})
judge_addition r u call x = do
  refuse causes.Denied (lacks r u levels.Write x)
  refuse causes.WrongKind (not (is_a r bases.Document x))
  refuse causes.StreamLong (is_too_long call.stream)

abbrev pub refusal_add_rendition : Repository → List ℕ → ℕ → AddRendition → Judged (Unit {0})
refusal_add_rendition r u cost call = do
  judge_storage r cost
  x ← find_or causes.NotFound (addressed r u call.place)
  judge_addition r u call x

-- ---- the repository after it

-- a rendition more, which draws the next number
abbrev pub with_rendition : Repository → Rendition → Repository
with_rendition r d = record r { renditions = r.renditions ++ d ∷ []; next = r.next + 1 }

-- with the rendition, one step further, with the event of its document; the document stays as it is
abbrev pub added : Repository → Rendition → Moment → ℕ → Repository
added r d m cost = noted (stepped (with_rendition r d) cost) changes.Updated d.of m []

-- the rendition that is given: its media type and its bytes are those of the stream
abbrev pub rendition_added : Repository → AddRendition → Object → Rendition
rendition_added r call x = record { of = x.id; id = new_number r; kind = call.kind; title = call.title; media = call.stream.kind; pieces = call.stream.pieces }

abbrev pub after_add_rendition_of : Repository → Moment → ℕ → AddRendition → Object → Repository
after_add_rendition_of r m cost call x = added r (rendition_added r call x) m cost

abbrev pub after_add_rendition : Repository → List ℕ → Moment → ℕ → AddRendition → Repository
after_add_rendition r u m cost call = unwrap_or (option_map (after_add_rendition_of r m cost call) (addressed r u call.place)) r

-- ---- the reply

-- the document as the caller sees it after the step; where nothing is addressed the call is refused, and a root stands for it
abbrev pub acknowledgement_add_rendition : Repository → List ℕ → Moment → ℕ → AddRendition → ObjectReply
acknowledgement_add_rendition r u m cost call = record {
  object = shown_object (after_add_rendition r u m cost call) u filters.All call.succinct (unwrap_or (addressed r u call.place) (root_folder u m r.step));
  created = false;
}
