use Rattle.std.proofs.Common.{◌≡◌, true, ap, ◌∙◌}
use Rattle.std.specs.Prelude.{is_some}
use Rattle.call_parts.specs.declared.readings.PropertyFilter.TheVariants as filters
use Rattle.call_parts.specs.declared.replies.ObjectReply.{ObjectReply}
use Rattle.cm_see.specs.Shown.{shown_object}
use Rattle.cmis_spec.specs.Repository.{object_at}
use Rattle.wr_object.specs.CreateDocument.{parts_made}
use Rattle.wr_object.proofs.create_document.create_document.Goals as goal

pub with_reply-requires : goal.with_reply-requires
with_reply-requires c = record {
  there = ap is_some ((λ i. object_at c.in_ok-made.made (record { 0 = c.next_number.ensures i })) ∙ c.in_ok-made.ensures.there);
}

pub returns-clause-written : goal.returns-clause-written
returns-clause-written c =
    let r = c.args.state.now in
    let u = c.args.user.now in
    let call = c.args.call.now in
    let made = c.in_ok-made.ensures.created.1 in
    let there = (λ i. object_at c.in_ok-made.made (record { 0 = c.next_number.ensures i })) ∙ c.in_ok-made.ensures.there in (
      c.in_ok-made.ensures.created.0,
      c.in_ok-next.ensures.same ∙ made,
      c.in_ok-next.ensures.shown (parts_made r u c.args.moment call).object there
          ∙ ap {B = ObjectReply} (λ s. record { object = shown_object s u filters.All call.succinct (parts_made r u c.args.moment call).object; created = true }) made,
    )
