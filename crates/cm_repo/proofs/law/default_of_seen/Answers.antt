use Rattle.std.proofs.Common.{sym, ap, if◌then◌else◌}
use Rattle.std.specs.Prelude.{Ok}
use Rattle.cm_base.specs.declared.cause.Cause.TheVariants as causes
use Rattle.cm_base.specs.Judged.{◌>>=◌}
use Rattle.cm_types.specs.declared.definition.BaseType.TheVariants as bases
use Rattle.cm_types.specs.Types.{is_of_base}
use Rattle.include_parts.specs.declared.replies.IncludedChildrenReply.{IncludedChildrenReply}
use Rattle.call_parts.specs.declared.replies.ContentReply.{ContentReply}
use Rattle.include_parts.specs.declared.replies.IncludedReply.{IncludedReply}
use Rattle.cm_call.specs.declared.reply.Reply.TheVariants as replies
use Rattle.cm_see.specs.Addressed.{addressed}
use Rattle.cm_see.proofs.Answers.{addressed_alike, answer_alike}
use Rattle.cm_see.proofs.Worlds.{AreAlike}
use Rattle.cm_repo.specs.Calls.{default_of}
use Rattle.cm_repo.proofs.law.default_of_seen.Goals as goal

pub returns : goal.returns
returns c r u q w other v e =
    let a : AreAlike r other u = record { well = w; other_well = v; alike = e } in
    let asked = q.children.children in
    let of_children = c.children_of_seen.ensures r u q.children w other v e in
    let of_content = c.stream_of_seen.ensures r u asked.place q.stream w other v e in
    let of_object = c.included_of_seen.ensures r u asked.place asked.filter asked.succinct q.children.includes w other v e in
    answer_alike r other u causes.NotFound (addressed r u asked.place) (addressed other u asked.place)
    (default_of r u q)
    (default_of other u q)
    (addressed_alike r other u asked.place a)
    (λ x h. λ i.
    if is_of_base (sym (ap (λ s. s.types) e) i) bases.Folder x.kind then (of_children i >>= λ (reply : IncludedChildrenReply). Ok (replies.Children reply))
    else if is_of_base (sym (ap (λ s. s.types) e) i) bases.Document x.kind then (of_content i >>= λ (reply : ContentReply). Ok (replies.Content reply))
    else (of_object i >>= λ (reply : IncludedReply). Ok (replies.Included reply)))
