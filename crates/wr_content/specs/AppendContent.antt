-- appendContent (CMIS 1.1, section 2.2.4.19): when it is refused, what it makes of the repository, and what it answers.
use Rattle.std.specs.Prelude.{ℕ, ◌+◌, ◌++◌, nat_lt, Bool, List, [], ◌∷◌, length, unwrap_or, option_map}
use Rattle.cm_base.specs.declared.number.Moment.{Moment}
use Rattle.cm_base.specs.declared.object.Object.{Object}
use Rattle.cm_base.specs.declared.content.Content.{Content}
use Rattle.cm_base.specs.declared.cause.Cause.TheVariants as causes
use Rattle.cm_base.specs.Judged.{Judged, ◌>>=◌, ◌>>◌, refuse, find_or}
use Rattle.call_parts.specs.declared.changes.AppendContent.{AppendContent}
use Rattle.call_parts.specs.declared.replies.ObjectReply.{ObjectReply}
use Rattle.call_parts.specs.declared.stream.GivenStream.{GivenStream}
use Rattle.call_parts.specs.Changes.{weight_of_append}
use Rattle.cm_see.specs.Addressed.{addressed}
use Rattle.cmis_spec.specs.Repository.{Repository, longest_stream, name_of}
use Rattle.cmis_spec.specs.Retention.{judge_kept}
use Rattle.wr_rules.specs.Rules.{judge_storage}
use Rattle.wr_rules.specs.Documents.{content_of_stream}
use Rattle.cm_state.specs.Looks.{content_at}
use Rattle.wr_content.specs.Changed.{changed_by, filled}
use Rattle.wr_content.specs.Document.{judge_document, is_barred, document_at, changed_reply}

abbrev pub cost_append_content : AppendContent → ℕ
cost_append_content call = weight_of_append call

-- ---- the content

-- the bytes that the document has
abbrev pub bytes_of : Repository → Object → List ℕ
bytes_of r x = unwrap_or (option_map (λ c. c.stream.pieces) (content_at r x.id)) []

-- with those that are given behind them it has more bytes than a content may have
abbrev pub grows_too_long : Repository → AppendContent → Object → Bool
grows_too_long r call x = nat_lt longest_stream (length (bytes_of r x) + length call.stream.pieces)

-- the same content with more bytes at its end; it keeps its media type and its file name
abbrev pub with_more : ℕ → GivenStream → Content → Content
with_more step stream content = record {
  of = content.of;
  stream = record { kind = content.stream.kind; file = content.stream.file; pieces = content.stream.pieces ++ stream.pieces };
  step = step;
}

-- a document without content takes the stream as it is
abbrev pub content_appended : Repository → AppendContent → Object → Content
content_appended r call x =
    unwrap_or (option_map (with_more (r.step + 1) call.stream) (content_at r x.id)) (content_of_stream x.id (name_of r x) (r.step + 1) call.stream)

-- ---- the refusal

-- the type allows content, and the longer content is not too long
abbrev pub judge_growth : Repository → AppendContent → Object → Judged (Unit {0})
judge_growth r call x = do
  refuse causes.StreamNot (is_barred r x)
  refuse causes.StreamLong (grows_too_long r call x)

abbrev pub refusal_append_content : Repository → List ℕ → Moment → ℕ → AppendContent → Judged (Unit {0})
refusal_append_content r u m cost call = do
  judge_storage r cost
  x ← find_or causes.NotFound (addressed r u call.place)
  judge_document r u call.token x
  judge_growth r call x
  judge_kept r m (x ∷ [])

-- ---- the repository after it

abbrev pub after_append_content_of : Repository → List ℕ → Moment → ℕ → AppendContent → Object → Repository
after_append_content_of r u m cost call x = filled r (changed_by r u m x) (content_appended r call x) cost

abbrev pub after_append_content : Repository → List ℕ → Moment → ℕ → AppendContent → Repository
after_append_content r u m cost call = unwrap_or (option_map (after_append_content_of r u m cost call) (addressed r u call.place)) r

-- ---- the reply

abbrev pub acknowledgement_append_content : Repository → List ℕ → Moment → ℕ → AppendContent → ObjectReply
acknowledgement_append_content r u m cost call =
    changed_reply (after_append_content r u m cost call) u call.succinct (changed_by r u m (document_at r u m call.place))
