use Rattle.std.proofs.Common.{sym, ap, ◌∙◌}
use Rattle.cmis_laws.proofs.Passed.{then_ok}
use Rattle.wr_rules.specs.Rules.{judge_storage}
use Rattle.wr_change.specs.Update.{cost_update, refusal_one}
use Rattle.wr_change.proofs.Put.{after_is, made_found, object_after}
use Rattle.wr_change.proofs.update.properties_updated.Goals as goal

pub with_update-requires : goal.with_update-requires
with_update-requires c = record {
  allowed = (then_ok (judge_storage c.args.state.now (cost_update c.args.call.now)) (refusal_one c.args.state.now c.args.user.now c.args.moment c.args.call.now) c.in_ok-x.ensures.judged.0).0;
  right = c.in_ok-x.ensures.right;
  values = c.in_ok-x.ensures.judged.2;
}

pub returns-clause-updated : goal.returns-clause-updated
returns-clause-updated c =
    let r = c.args.state.now in
    let u = c.args.user.now in
    let m = c.args.moment in
    let call = c.args.call.now in
    let x = c.in_ok-x.x.now in
    let found = c.in_ok-x.ensures.judged.1 in (
      c.in_ok-x.ensures.judged.0,
      c.in_ok-made.ensures ∙ sym (after_is r u m (cost_update call) call x found),
      ap (λ y. y.id) (sym (object_after r u m (cost_update call) call x found)),
    )

pub returns-clause-there : goal.returns-clause-there
returns-clause-there c =
    made_found c.args.state.now c.args.user.now c.args.moment (cost_update c.args.call.now) c.args.call.now c.in_ok-x.x.now c.in_ok-made.made
    c.in_ok-x.ensures.right.there c.in_ok-x.ensures.judged.1 c.in_ok-made.ensures
