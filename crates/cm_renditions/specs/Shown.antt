-- The renditions of an object, as replies show them (CMIS 1.1, section 2.1.4.2).
use Rattle.std.specs.Prelude.{List, length, map, filter, Bool}
use Rattle.cm_base.specs.declared.object.Object.{Object}
use Rattle.cm_base.specs.declared.content.Rendition.{Rendition}
use Rattle.cm_state.specs.Looks.{renditions_of}
use Rattle.cmis_spec.specs.Repository.{Repository}
use Rattle.rendition_parts.specs.declared.filter.RenditionFilter.{RenditionFilter}
use Rattle.rendition_parts.specs.declared.replies.ShownRendition.{ShownRendition}
use Rattle.rendition_parts.specs.Filters.{keeps}

-- all but its bytes, which the selector content gives under its stream id
abbrev pub shown_rendition : Rendition → ShownRendition
shown_rendition d = record { stream_id = d.id; mime_type = d.media; length = length d.pieces; kind = d.kind; title = d.title }

abbrev pub is_kept : RenditionFilter → Rendition → Bool
is_kept f d = keeps f d.kind d.media

-- the renditions of the object that the filter keeps, in the order of their numbers
abbrev pub kept_renditions : Repository → RenditionFilter → Object → List Rendition
kept_renditions r f x = filter (is_kept f) (renditions_of r x.id)

abbrev pub shown_renditions : Repository → RenditionFilter → Object → List ShownRendition
shown_renditions r f x = map shown_rendition (kept_renditions r f x)
