use Rattle.std.proofs.Common.{ap, ◌∙◌}
use Rattle.std.specs.Prelude.{is_some, false}
use Rattle.call_parts.specs.declared.readings.PropertyFilter.TheVariants as filters
use Rattle.call_parts.specs.declared.replies.ObjectReply.{ObjectReply}
use Rattle.cm_see.specs.Shown.{shown_object}
use Rattle.wr_change.specs.Update.{cost_update, object_updated}
use Rattle.wr_change.proofs.update.update.Goals as goal

pub with_changed-requires : goal.with_changed-requires
with_changed-requires c = record { there = ap is_some c.in_ok-made.ensures.there }

pub returns-clause-written : goal.returns-clause-written
returns-clause-written c =
    let u = c.args.user.now in
    let call = c.args.call.now in
    let x = object_updated c.args.state.now u c.args.moment (cost_update call) call in
    let made = c.in_ok-made.ensures.updated.1 in (
      c.in_ok-made.ensures.updated.0,
      c.in_ok-next.ensures.same ∙ made,
      c.in_ok-next.ensures.shown x c.in_ok-made.ensures.there
          ∙ ap {B = ObjectReply} (λ s. record { object = shown_object s u filters.All call.succinct x; created = false }) made,
    )
