-- What is sent of each write and of each reading's answer.
use Rattle.std.specs.Prelude.{ℕ, List, Option, Ok}
use Rattle.cm_base.specs.declared.number.Moment.{Moment}
use Rattle.cm_base.specs.declared.object.Object.{Object}
use Rattle.cm_base.specs.declared.shown.Shown.{Shown}
use Rattle.cm_base.specs.Judged.{Judged, ◌>>=◌}
use Rattle.call_parts.specs.declared.place.Place.{Place}
use Rattle.include_parts.specs.declared.readings.ShowChildren.{ShowChildren}
use Rattle.include_parts.specs.declared.readings.ShowDefault.{ShowDefault}
use Rattle.include_parts.specs.declared.readings.ShowObject.{ShowObject}
use Rattle.include_parts.specs.declared.replies.IncludedChildrenReply.{IncludedChildrenReply}
use Rattle.call_parts.specs.declared.replies.ContentReply.{ContentReply}
use Rattle.include_parts.specs.declared.replies.IncludedReply.{IncludedReply}
use Rattle.cm_call.specs.declared.write.Write.{Write}
use Rattle.cm_call.specs.declared.reply.Reply.TheVariants as replies
use Rattle.bind_json.specs.Replies.{shown_reply}
use Rattle.cmis_spec.specs.Repository.{Repository}
use Rattle.cm_repo.specs.Calls.{acknowledgement, after, answer_default, default_of}
use Rattle.cm_include.specs.declared.included.View.{View}
use Rattle.rd_include.specs.ShowChildren.{answer_show_children}
use Rattle.rd_include.specs.ShowObject.{answer_included_in, answer_show_object}
use Rattle.rd_version.specs.Content.{answer_stream}

-- what is sent of a write that is not refused, at the step after it
abbrev pub sent_write : Repository → List ℕ → Moment → Write → Shown
sent_write r u m call = shown_reply (acknowledgement r u m call) (after r u m call).step

-- what is sent of a page that is answered at this step
abbrev pub page_sent : ℕ → Judged IncludedChildrenReply → Judged Shown
page_sent step judged = (judged >>= λ reply. Ok (replies.Children reply)) >>= λ reply. Ok (shown_reply reply step)

-- what is sent of an object that is answered at this step
abbrev pub reply_sent : ℕ → Judged IncludedReply → Judged Shown
reply_sent step judged = (judged >>= λ reply. Ok (replies.Included reply)) >>= λ reply. Ok (shown_reply reply step)

-- what is sent of a content that is answered at this step
abbrev pub content_sent : ℕ → Judged ContentReply → Judged Shown
content_sent step judged = (judged >>= λ reply. Ok (replies.Content reply)) >>= λ reply. Ok (shown_reply reply step)

abbrev pub sent_stream : Repository → List ℕ → Place → Option (List ℕ) → Judged Shown
sent_stream r u place stream = content_sent r.step (answer_stream r u place stream)

-- what is sent of an answer without a selector, about what was found
abbrev pub sent_found : Repository → List ℕ → ShowDefault → Object → Judged Shown
sent_found r u q x = default_of r u q x >>= λ reply. Ok (shown_reply reply r.step)

abbrev pub sent_default : Repository → List ℕ → ShowDefault → Judged Shown
sent_default r u q = answer_default r u q >>= λ reply. Ok (shown_reply reply r.step)

abbrev pub sent_children : Repository → List ℕ → ShowChildren → Judged Shown
sent_children r u q = page_sent r.step (answer_show_children r u q)

abbrev pub sent_object : Repository → List ℕ → ShowObject → Judged Shown
sent_object r u q = reply_sent r.step (answer_show_object r u q)

-- of an object in a view of the repository
abbrev pub sent_included : View → Place → Judged Shown
sent_included v place = reply_sent v.state.now.step (answer_included_in v place)
