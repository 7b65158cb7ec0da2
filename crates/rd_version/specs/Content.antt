-- The content of a document, or one of its renditions (CMIS 1.1, section 2.2.4.11).
use Rattle.std.specs.Prelude.{ℕ, not, List, find, Option, Some, None, option_map, option_and_then, codes}
use Rattle.cm_base.specs.declared.number.Oid.{Oid}
use Rattle.cm_base.specs.declared.object.Object.{Object}
use Rattle.cm_base.specs.declared.content.Content.{Content}
use Rattle.cm_base.specs.declared.content.Rendition.{Rendition}
use Rattle.cm_base.specs.declared.cause.Cause.TheVariants as causes
use Rattle.cm_base.specs.Judged.{Judged, ◌>>=◌, ◌>>◌, find_or, refuse}
use Rattle.cm_types.specs.declared.definition.BaseType.TheVariants as bases
use Rattle.call_parts.specs.declared.place.Place.{Place}
use Rattle.call_parts.specs.declared.readings.ReadContent.{ReadContent}
use Rattle.call_parts.specs.declared.replies.ContentReply.{ContentReply}
use Rattle.cm_see.specs.Addressed.{addressed}
use Rattle.cm_state.specs.Looks.{content_at, renditions_of}
use Rattle.cmis_spec.specs.Repository.{Repository, same, is_a}
use Rattle.cmis_spec.specs.Access.{oid_named}

abbrev pub content_reply : Content → ContentReply
content_reply c = record { kind = c.stream.kind; body = c.stream.pieces }

abbrev pub rendition_reply : Rendition → ContentReply
rendition_reply d = record { kind = d.media; body = d.pieces }

-- the rendition of x that has this number
abbrev pub rendition_of : Repository → Object → Oid → Option Rendition
rendition_of r x n = find (λ d. same d.id n) (renditions_of r x.id)

-- the rendition of x that has this stream id; the id of its content is none of them
abbrev pub rendition_named : Repository → Object → List ℕ → Option Rendition
rendition_named r x id = option_and_then (rendition_of r x) (oid_named id)

-- the content, or the rendition that is named
abbrev pub stream_of : Repository → Object → Option (List ℕ) → Judged ContentReply
stream_of r x None = find_or causes.NoContent (option_map content_reply (content_at r x.id))
stream_of r x (Some id) = find_or (causes.BadArgument (codes "streamId")) (option_map rendition_reply (rendition_named r x id))

abbrev pub content_in : Repository → Option (List ℕ) → Object → Judged ContentReply
content_in r stream x = do
  refuse causes.WrongKind (not (is_a r bases.Document x))
  stream_of r x stream

abbrev pub answer_stream : Repository → List ℕ → Place → Option (List ℕ) → Judged ContentReply
answer_stream r u place stream = do
  x ← find_or causes.NotFound (addressed r u place)
  content_in r stream x

abbrev pub answer_content : Repository → List ℕ → ReadContent → Judged ContentReply
answer_content r u q = answer_stream r u q.place q.stream
