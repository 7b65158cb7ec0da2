use Rattle.std.proofs.Common.{◌≡◌, ◌+◌, ◌<◌, ◌^◌, sym, subst, ◌∙◌}
use Rattle.cmis_spec.specs.Well.{IsWellFormed}
use Rattle.wr_filing.specs.RemoveFromFolder.{cost_remove_from_folder, removed_by, after_remove_from_folder}
use Rattle.wr_filing.proofs.Removing.{room_for, after_is, keeps_removal}
use Rattle.wr_filing.proofs.remove_from_folder.with_removal.Goals as goal
use Rattle.wr_filing.proofs.remove_from_folder.with_removal.Goals.{In_ok-draft}

pub removed_by-requires : goal.removed_by-requires
removed_by-requires c =
    let room = room_for c.args.state.now c.args.user.now (cost_remove_from_folder c.args.call.now) c.args.call.now c.step-step.ensures.well c.requires.allowed in
    record { step = room.0; cost = subst (λ k. c.args.state.now.cost + k < 2 ^ 64) (sym c.weight_of_remove-cost.ensures) room.1 }

is_after : (c : In_ok-draft) → c.in_ok-draft.draft ≡ after_remove_from_folder c.args.state.now c.args.user.now c.args.moment (cost_remove_from_folder c.args.call.now) c.args.call.now
is_after c =
    let r = c.args.state.now in
    let x = c.args.x.now in
    c.in_ok-draft.ensures
    ∙ ((λ i. removed_by r c.args.moment (c.weight_of_remove-cost.ensures i) x (c.requires.folder i))
    ∙ sym (after_is r c.args.user.now c.args.moment (cost_remove_from_folder c.args.call.now) c.args.call.now x c.requires.found))

pub seal-requires : goal.seal-requires
seal-requires c = record {
  well = subst IsWellFormed (sym (is_after c)) (keeps_removal c.args.state.now c.args.user.now c.args.moment (cost_remove_from_folder c.args.call.now) c.args.call.now c.step-step.ensures.well c.requires.allowed);
}

pub returns : goal.returns
returns c =
    let r = c.args.state.now in
    let x = c.args.x.now in
    c.seal.ensures ∙ (c.in_ok-draft.ensures
    ∙ ((λ i. removed_by r c.args.moment (c.weight_of_remove-cost.ensures i) x (c.requires.folder i))
    ∙ sym (after_is r c.args.user.now c.args.moment (cost_remove_from_folder c.args.call.now) c.args.call.now x c.requires.found)))
