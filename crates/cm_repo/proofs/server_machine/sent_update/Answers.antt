use Rattle.std.proofs.Common.{ap, ◌∙◌}
use Rattle.std.specs.Prelude.{is_some}
use Rattle.serde_json.specs.Written.{compact_text}
use Rattle.call_parts.specs.declared.readings.PropertyFilter.TheVariants as filters
use Rattle.cm_see.specs.Shown.{shown_object}
use Rattle.object_json.specs.Objects.{shown_data}
use Rattle.object_json.specs.Sent.{shown_json}
use Rattle.wr_change.specs.Update.{cost_update, object_updated}
use Rattle.cm_repo.proofs.server_machine.sent_update.Goals as goal

pub sent_made-requires : goal.sent_made-requires
sent_made-requires c = record { there = ap is_some c.in_ok-made.ensures.there }

pub returns : goal.returns
returns c =
    let u = c.args.user.now in
    let call = c.args.call.now in
    let x = object_updated c.args.state.now u c.args.moment (cost_update call) call in
    let made = c.in_ok-made.ensures.updated.1 in (
      c.in_ok-made.ensures.updated.0,
      made,
      c.in_ok-shown.ensures x c.in_ok-made.ensures.there
          ∙ ap (λ s. shown_json 200 (compact_text (shown_data (shown_object s u filters.All call.succinct x))) s.step) made,
    )
