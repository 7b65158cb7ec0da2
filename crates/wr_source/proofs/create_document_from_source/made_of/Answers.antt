use Rattle.std.proofs.Common.{◌≡◌, Ok, true, ap, subst, sym, ◌∙◌}
use Rattle.std.specs.Prelude.{is_some}
use Rattle.call_parts.specs.declared.readings.PropertyFilter.TheVariants as filters
use Rattle.call_parts.specs.declared.replies.ObjectReply.{ObjectReply}
use Rattle.cm_see.specs.Shown.{shown_object}
use Rattle.wr_source.specs.CreateDocumentFromSource.{cost_of_source, cost_create_document_from_source, refusal_create_document_from_source, parts_made, after_create_document_from_source}
use Rattle.wr_source.proofs.Created.{parts_are}
use Rattle.wr_source.proofs.Found.{passed_by_source, room_for, made_is_found}
use Rattle.wr_source.proofs.create_document_from_source.made_of.Goals as goal

pub new_parts-requires : goal.new_parts-requires
new_parts-requires c = record { room = (room_for c.args.state.now c.args.user.now c.cost_of-cost.result c.args.call.now c.step-step.ensures.well (passed_by_source c.args.state.now c.args.user.now c.cost_of-cost.result c.args.call.now c.args.x.now c.requires.found c.in_ok-allowed.ensures.0)).step }

pub with_new-requires : goal.with_new-requires
with_new-requires c =
    let r = c.args.state.now in
    let u = c.args.user.now in
    record {
      allowed = passed_by_source c.args.state.now c.args.user.now c.cost_of-cost.result c.args.call.now c.args.x.now c.requires.found c.in_ok-allowed.ensures.0;
      new = c.in_ok-new.ensures ∙ parts_are r u c.args.moment c.args.call.now c.args.x.now c.in_ok-t.t c.in_ok-allowed.allowed c.requires.found c.in_ok-t.ensures c.in_ok-allowed.ensures.1;
    }

pub with_reply-requires : goal.with_reply-requires
with_reply-requires c = record {
  there = ap is_some (made_is_found c.args.state.now c.args.user.now c.args.moment c.cost_of-cost.result c.args.call.now c.in_ok-made.made c.next_number.result c.step-step.ensures.well.numbers c.in_ok-made.ensures c.next_number.ensures);
}

pub returns-clause-written : goal.returns-clause-written
returns-clause-written c =
    let r = c.args.state.now in
    let u = c.args.user.now in
    let m = c.args.moment in
    let call = c.args.call.now in
    let cost : c.cost_of-cost.result ≡ cost_create_document_from_source r u call = c.cost_of-cost.ensures ∙ sym (ap (cost_of_source r call) c.requires.found) in
    let made = c.in_ok-made.ensures ∙ ap (λ k. after_create_document_from_source r u m k call) cost in
    let there = made_is_found r u m c.cost_of-cost.result call c.in_ok-made.made c.next_number.result c.step-step.ensures.well.numbers c.in_ok-made.ensures c.next_number.ensures in (
      subst (λ k. refusal_create_document_from_source r u k call ≡ Ok tt) cost (passed_by_source c.args.state.now c.args.user.now c.cost_of-cost.result c.args.call.now c.args.x.now c.requires.found c.in_ok-allowed.ensures.0),
      c.in_ok-next.ensures.same ∙ made,
      c.in_ok-next.ensures.shown (parts_made r u m call).object there
          ∙ ap {B = ObjectReply} (λ s. record { object = shown_object s u filters.All call.document.succinct (parts_made r u m call).object; created = true }) made,
    )
