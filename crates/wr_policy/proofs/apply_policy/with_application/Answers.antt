use Rattle.std.proofs.Common.{◌≡◌, ◌+◌, ◌<◌, ◌^◌, sym, subst, ◌∙◌}
use Rattle.cmis_spec.specs.Well.{IsWellFormed}
use Rattle.wr_policy.specs.ApplyPolicy.{cost_apply_policy, applied_to, after_apply_policy}
use Rattle.wr_policy.proofs.Applying.{room_for, after_is, keeps_apply}
use Rattle.wr_policy.proofs.apply_policy.with_application.Goals as goal
use Rattle.wr_policy.proofs.apply_policy.with_application.Goals.{In_ok-draft}

pub applied_to-requires : goal.applied_to-requires
applied_to-requires c =
    let room = room_for c.args.state.now c.args.user.now (cost_apply_policy c.args.call.now) c.args.call.now c.step-step.ensures.well c.requires.allowed in
    record { step = room.0; cost = subst (λ k. c.args.state.now.cost + k < 2 ^ 64) (sym c.weight_of_apply_policy-cost.ensures) room.1 }

is_after : (c : In_ok-draft) → c.in_ok-draft.draft ≡ after_apply_policy c.args.state.now c.args.user.now c.args.moment (cost_apply_policy c.args.call.now) c.args.call.now
is_after c =
    let r = c.args.state.now in
    let x = c.args.x.now in
    c.in_ok-draft.ensures
    ∙ ((λ i. applied_to r c.args.moment (c.weight_of_apply_policy-cost.ensures i) (c.requires.policy i) x.id)
    ∙ sym (after_is r c.args.user.now c.args.moment (cost_apply_policy c.args.call.now) c.args.call.now x c.requires.found))

pub seal-requires : goal.seal-requires
seal-requires c = record {
  well = subst IsWellFormed (sym (is_after c)) (keeps_apply c.args.state.now c.args.user.now c.args.moment (cost_apply_policy c.args.call.now) c.args.call.now c.step-step.ensures.well c.requires.allowed);
}

pub returns : goal.returns
returns c =
    let r = c.args.state.now in
    let x = c.args.x.now in
    c.seal.ensures ∙ (c.in_ok-draft.ensures
    ∙ ((λ i. applied_to r c.args.moment (c.weight_of_apply_policy-cost.ensures i) (c.requires.policy i) x.id)
    ∙ sym (after_is r c.args.user.now c.args.moment (cost_apply_policy c.args.call.now) c.args.call.now x c.requires.found)))
