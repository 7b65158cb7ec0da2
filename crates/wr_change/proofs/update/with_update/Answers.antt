use Rattle.std.proofs.Common.{◌≡◌, sym, ap, subst, ◌∙◌}
use Rattle.std.specs.Prelude.{Ok}
use Rattle.cmis_spec.specs.Changes.{stepped}
use Rattle.wr_rules.specs.Rules.{judge_storage}
use Rattle.wr_change.specs.Update.{cost_update, values_updated, changed_in}
use Rattle.wr_change.specs.UpdateParts.{MayChange}
use Rattle.wr_change.proofs.Updating.{right_stepped}
use Rattle.wr_change.proofs.update.with_update.Goals as goal

pub begun-requires : goal.begun-requires
begun-requires c = record { allowed = subst (λ k. judge_storage c.args.state.now k ≡ Ok tt) (sym c.weight_of_update.ensures) c.requires.allowed }

pub changed_in-requires : goal.changed_in-requires
changed_in-requires c =
    let r = c.args.state.now in
    let call = c.args.call.now in
    let x = c.args.found.0.now in
    let begun = c.in_ok-begun.ensures ∙ ap (stepped r) c.weight_of_update.ensures in
    record {
      right = subst (λ q. MayChange q call x) (sym begun) (right_stepped r (cost_update call) call x c.requires.right);
      values = subst (λ q. c.args.found.1 ≡ values_updated q call x) (sym begun) c.requires.values;
    }

pub returns : goal.returns
returns c =
    c.in_ok-made.ensures
    ∙ ap (λ q. changed_in q c.args.user.now c.args.moment c.args.call.now c.args.found.0.now) (c.in_ok-begun.ensures ∙ ap (stepped c.args.state.now) c.weight_of_update.ensures)
