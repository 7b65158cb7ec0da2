use Rattle.std.proofs.Common.{ap, ◌∙◌}
use Rattle.std.specs.Prelude.{is_some}
use Rattle.cm_types.specs.Types.{type_in}
use Rattle.wr_types.specs.UpdateType.{cost_update_type, updated_type}
use Rattle.wr_types.proofs.Changing.{updated_there}
use Rattle.wr_types.proofs.update_type.update_type.Goals as goal

pub with_reply-requires : goal.with_reply-requires
with_reply-requires c =
    let r = c.args.state.now in
    let call = c.args.call.now in
    record {
      there = ap is_some (ap (λ s. type_in s.types call.definition.id) (c.in_ok-made.ensures c.args.moment) ∙ updated_there r c.args.user.now (cost_update_type call) call c.in_ok-types.ensures.0);
    }

pub returns-clause-written : goal.returns-clause-written
returns-clause-written c =
    let r = c.args.state.now in
    let call = c.args.call.now in (
      c.in_ok-types.ensures.0,
      c.in_ok-next.ensures.same ∙ c.in_ok-made.ensures c.args.moment,
      c.in_ok-next.ensures.shown (updated_type r.types call.definition)
          (ap (λ s. type_in s.types call.definition.id) (c.in_ok-made.ensures c.args.moment) ∙ updated_there r c.args.user.now (cost_update_type call) call c.in_ok-types.ensures.0),
    )
