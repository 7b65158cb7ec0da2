-- deleteContent (CMIS 1.1, section 2.2.4.20): when it is refused, what it makes of the repository, and what it answers.
use Rattle.std.specs.Prelude.{ℕ, if◌then◌else◌, List, [], ◌∷◌, is_some, unwrap_or, option_map}
use Rattle.cm_base.specs.declared.number.Moment.{Moment}
use Rattle.cm_base.specs.declared.object.Object.{Object}
use Rattle.cm_base.specs.declared.cause.Cause.TheVariants as causes
use Rattle.cm_base.specs.Judged.{Judged, ◌>>=◌, ◌>>◌, refuse, find_or}
use Rattle.call_parts.specs.declared.changes.DeleteContent.{DeleteContent}
use Rattle.call_parts.specs.declared.replies.ObjectReply.{ObjectReply}
use Rattle.call_parts.specs.Changes.{weight_of_delete_content}
use Rattle.cm_see.specs.Addressed.{addressed}
use Rattle.cmis_spec.specs.Repository.{Repository}
use Rattle.cmis_spec.specs.Changes.{stepped}
use Rattle.cmis_spec.specs.Retention.{judge_kept}
use Rattle.wr_rules.specs.Rules.{judge_storage}
use Rattle.cm_state.specs.Looks.{content_at}
use Rattle.wr_content.specs.Changed.{changed_by, cleared}
use Rattle.wr_content.specs.Document.{judge_document, is_needed, document_at, changed_reply}

abbrev pub cost_delete_content : DeleteContent → ℕ
cost_delete_content call = weight_of_delete_content call

-- ---- the refusal

abbrev pub refusal_delete_content : Repository → List ℕ → Moment → ℕ → DeleteContent → Judged (Unit {0})
refusal_delete_content r u m cost call = do
  judge_storage r cost
  x ← find_or causes.NotFound (addressed r u call.place)
  judge_document r u call.token x
  refuse causes.ContentRequired (is_needed r x)
  judge_kept r m (x ∷ [])

-- ---- the repository after it

-- a document without content stays as it is, and nothing tells of the call but its step
abbrev pub document_rid : Repository → List ℕ → Moment → Object → Object
document_rid r u m x = if is_some (content_at r x.id) then changed_by r u m x else x

abbrev pub after_delete_content_of : Repository → List ℕ → Moment → ℕ → Object → Repository
after_delete_content_of r u m cost x = if is_some (content_at r x.id) then cleared r (changed_by r u m x) cost else stepped r cost

abbrev pub after_delete_content : Repository → List ℕ → Moment → ℕ → DeleteContent → Repository
after_delete_content r u m cost call = unwrap_or (option_map (after_delete_content_of r u m cost) (addressed r u call.place)) r

-- ---- the reply

abbrev pub acknowledgement_delete_content : Repository → List ℕ → Moment → ℕ → DeleteContent → ObjectReply
acknowledgement_delete_content r u m cost call =
    changed_reply (after_delete_content r u m cost call) u call.succinct (document_rid r u m (document_at r u m call.place))
