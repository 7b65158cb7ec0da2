use Rattle.std.proofs.Common.{◌≡◌, Ok, true, ap, subst, ◌∙◌}
use Rattle.std.specs.Prelude.{is_some}
use Rattle.call_parts.specs.declared.readings.PropertyFilter.TheVariants as filters
use Rattle.call_parts.specs.declared.replies.ObjectReply.{ObjectReply}
use Rattle.cm_see.specs.Shown.{shown_object}
use Rattle.wr_version.specs.CheckOut.{refusal_check_out, after_check_out, copy_made}
use Rattle.wr_version.proofs.Copied.{copy_found}
use Rattle.wr_version.proofs.check_out.check_out.Goals as goal

pub with_reply-requires : goal.with_reply-requires
with_reply-requires c = record {
  there = ap is_some (copy_found c.args.state.now c.args.user.now c.args.moment c.cost_of-cost.result c.args.call.now c.in_ok-made.made c.next_number.result c.step-step.ensures.well.numbers c.in_ok-made.ensures.0 c.in_ok-made.ensures.1 c.next_number.ensures);
}

pub returns-clause-written : goal.returns-clause-written
returns-clause-written c =
    let r = c.args.state.now in
    let u = c.args.user.now in
    let m = c.args.moment in
    let call = c.args.call.now in
    let made = c.in_ok-made.ensures.1 ∙ ap (λ k. after_check_out r u m k call) c.cost_of-cost.ensures in
    let there = copy_found r u m c.cost_of-cost.result call c.in_ok-made.made c.next_number.result c.step-step.ensures.well.numbers c.in_ok-made.ensures.0 c.in_ok-made.ensures.1 c.next_number.ensures in (
      subst (λ k. refusal_check_out r u k call ≡ Ok tt) c.cost_of-cost.ensures c.in_ok-made.ensures.0,
      c.in_ok-next.ensures.same ∙ made,
      c.in_ok-next.ensures.shown (copy_made r u m call) there
          ∙ ap {B = ObjectReply} (λ s. record { object = shown_object s u filters.All call.succinct (copy_made r u m call); created = true }) made,
    )
