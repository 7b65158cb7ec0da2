use Rattle.std.proofs.Common.{ap, ◌∙◌}
use Rattle.std.specs.Prelude.{true, is_some}
use Rattle.call_parts.specs.declared.readings.PropertyFilter.TheVariants as filters
use Rattle.call_parts.specs.declared.replies.ObjectReply.{ObjectReply}
use Rattle.cm_see.specs.Shown.{shown_object}
use Rattle.cmis_spec.specs.Repository.{object_at}
use Rattle.wr_create.proofs.Made.{new_is_there}
use Rattle.wr_create.proofs.making.made_with_reply.Goals as goal

pub with_reply-requires : goal.with_reply-requires
with_reply-requires c =
    let there = (λ i. object_at (c.in_ok-made.ensures i) (record { 0 = c.next_number.ensures i })) ∙ new_is_there c.args.state.now c.args.cost c.args.new c.step-step.ensures.well.numbers c.requires.number in
    record { there = ap is_some there }

pub returns-clause-shown : goal.returns-clause-shown
returns-clause-shown c =
    let there = (λ i. object_at (c.in_ok-made.ensures i) (record { 0 = c.next_number.ensures i })) ∙ new_is_there c.args.state.now c.args.cost c.args.new c.step-step.ensures.well.numbers c.requires.number in
    c.in_ok-next.ensures.shown c.args.new.object there
    ∙ ap {B = ObjectReply} (λ s. (record { object = shown_object s c.args.user.now filters.All c.args.succinct c.args.new.object; created = true })) c.in_ok-made.ensures
