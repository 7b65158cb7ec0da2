use Rattle.std.proofs.Common.{◌≡◌, ◌+◌, ◌<◌, ◌^◌, true, sym, ap, subst}
use Rattle.std.specs.Prelude.{is_some}
use Rattle.cmis_spec.specs.Repository.{object_at}
use Rattle.wr_rules.proofs.Found.{addressed_there}
use Rattle.wr_content.specs.DeleteContent.{cost_delete_content}
use Rattle.wr_content.proofs.DeleteContent.{delete_passes, cleared_well, stepped_well}
use Rattle.wr_content.proofs.delete_content.without_content.Goals as goal

pub only_stepped-requires-clause-step : goal.only_stepped-requires-clause-step
only_stepped-requires-clause-step c = (delete_passes c.args.state.now c.args.user.now c.args.moment (cost_delete_content c.args.call.now) c.args.call.now c.args.x.now c.step-step.ensures.well c.requires.found c.requires.allowed).step

pub only_stepped-requires-clause-cost : goal.only_stepped-requires-clause-cost
only_stepped-requires-clause-cost c = subst (λ k. c.args.state.now.cost + k < 2 ^ 64) (sym c.weight_of_delete_content-cost.ensures)
    (delete_passes c.args.state.now c.args.user.now c.args.moment (cost_delete_content c.args.call.now) c.args.call.now c.args.x.now c.step-step.ensures.well c.requires.found c.requires.allowed).bytes

pub only_stepped-requires-clause-well : goal.only_stepped-requires-clause-well
only_stepped-requires-clause-well c = stepped_well c.args.state.now c.args.user.now c.args.moment (cost_delete_content c.args.call.now) c.weight_of_delete_content-cost.result c.args.call.now c.args.x.now
    c.step-step.ensures.well c.requires.found c.requires.allowed c.weight_of_delete_content-cost.ensures

pub changed_by-requires : goal.changed_by-requires
changed_by-requires c = record { room = (delete_passes c.args.state.now c.args.user.now c.args.moment (cost_delete_content c.args.call.now) c.args.call.now c.args.x.now c.step-step.ensures.well c.requires.found c.requires.allowed).step }

pub cleared-requires : goal.cleared-requires
cleared-requires c =
    let r = c.args.state.now in
    let u = c.args.user.now in
    let call = c.args.call.now in
    let w = c.step-step.ensures.well in
    let p = delete_passes r u c.args.moment (cost_delete_content call) call c.args.x.now c.step-step.ensures.well c.requires.found c.requires.allowed in
    record {
      there = subst (λ n. is_some (object_at r n) ≡ true) (sym (ap (λ y. y.id) c.in_ok-changed.ensures)) (ap is_some (addressed_there r u call.place c.args.x.now w.numbers c.requires.found));
      step = p.step;
      cost = subst (λ k. r.cost + k < 2 ^ 64) (sym c.weight_of_delete_content-cost.ensures) p.bytes;
      well = cleared_well r u c.args.moment (cost_delete_content call) c.weight_of_delete_content-cost.result call c.args.x.now c.in_ok-changed.changed w c.requires.found c.requires.allowed
          c.in_ok-changed.ensures c.weight_of_delete_content-cost.ensures;
    }
