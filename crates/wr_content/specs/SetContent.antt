-- setContent (CMIS 1.1, section 2.2.4.18): when it is refused, what it makes of the repository, and what it answers.
use Rattle.std.specs.Prelude.{ℕ, ◌+◌, not, ◌&&◌, List, [], ◌∷◌, is_some, unwrap_or, option_map}
use Rattle.cm_base.specs.declared.number.Moment.{Moment}
use Rattle.cm_base.specs.declared.object.Object.{Object}
use Rattle.cm_base.specs.declared.content.Content.{Content}
use Rattle.cm_base.specs.declared.cause.Cause.TheVariants as causes
use Rattle.cm_base.specs.Judged.{Judged, ◌>>=◌, ◌>>◌, refuse, find_or}
use Rattle.call_parts.specs.declared.changes.SetContent.{SetContent}
use Rattle.call_parts.specs.declared.replies.ObjectReply.{ObjectReply}
use Rattle.call_parts.specs.Changes.{weight_of_set_content}
use Rattle.cm_see.specs.Addressed.{addressed}
use Rattle.cmis_spec.specs.Repository.{Repository, name_of}
use Rattle.cmis_spec.specs.Retention.{judge_kept}
use Rattle.wr_rules.specs.Rules.{judge_storage}
use Rattle.wr_rules.specs.Documents.{is_too_long, content_of_stream}
use Rattle.cm_state.specs.Looks.{content_at}
use Rattle.wr_content.specs.Changed.{changed_by, filled}
use Rattle.wr_content.specs.Document.{judge_document, is_barred, document_at, changed_reply}

abbrev pub cost_set_content : SetContent → ℕ
cost_set_content call = weight_of_set_content call

-- ---- the refusal

-- the type allows content, none is there that would be replaced against the caller's will, and the stream is not too long
abbrev pub judge_stream : Repository → SetContent → Object → Judged (Unit {0})
judge_stream r call x = do
  refuse causes.StreamNot (is_barred r x)
  refuse causes.ContentExists (not call.overwrite && is_some (content_at r x.id))
  refuse causes.StreamLong (is_too_long call.stream)

abbrev pub refusal_set_content : Repository → List ℕ → Moment → ℕ → SetContent → Judged (Unit {0})
refusal_set_content r u m cost call = do
  judge_storage r cost
  x ← find_or causes.NotFound (addressed r u call.place)
  judge_document r u call.token x
  judge_stream r call x
  judge_kept r m (x ∷ [])

-- ---- the repository after it

-- the stream that is given, as of this step
abbrev pub content_set : Repository → SetContent → Object → Content
content_set r call x = content_of_stream x.id (name_of r x) (r.step + 1) call.stream

abbrev pub after_set_content_of : Repository → List ℕ → Moment → ℕ → SetContent → Object → Repository
after_set_content_of r u m cost call x = filled r (changed_by r u m x) (content_set r call x) cost

abbrev pub after_set_content : Repository → List ℕ → Moment → ℕ → SetContent → Repository
after_set_content r u m cost call = unwrap_or (option_map (after_set_content_of r u m cost call) (addressed r u call.place)) r

-- ---- the reply

abbrev pub acknowledgement_set_content : Repository → List ℕ → Moment → ℕ → SetContent → ObjectReply
acknowledgement_set_content r u m cost call =
    changed_reply (after_set_content r u m cost call) u call.succinct (changed_by r u m (document_at r u m call.place))
