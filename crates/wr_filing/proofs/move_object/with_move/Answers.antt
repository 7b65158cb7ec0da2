use Rattle.std.proofs.Common.{◌≡◌, ◌+◌, ◌<◌, ◌^◌, sym, subst, ◌∙◌}
use Rattle.cmis_spec.specs.Well.{IsWellFormed}
use Rattle.wr_filing.specs.MoveObject.{cost_move, moved_to, after_move}
use Rattle.wr_filing.proofs.Moving.{room_for, after_is, keeps_move}
use Rattle.wr_filing.proofs.move_object.with_move.Goals as goal
use Rattle.wr_filing.proofs.move_object.with_move.Goals.{In_ok-draft}

pub moved_to-requires : goal.moved_to-requires
moved_to-requires c =
    let room = room_for c.args.state.now c.args.user.now (cost_move c.args.call.now) c.args.call.now c.step-step.ensures.well c.requires.allowed in
    record { step = room.0; cost = subst (λ k. c.args.state.now.cost + k < 2 ^ 64) (sym c.weight_of_move-cost.ensures) room.1 }

is_after : (c : In_ok-draft) → c.in_ok-draft.draft ≡ after_move c.args.state.now c.args.user.now c.args.moment (cost_move c.args.call.now) c.args.call.now
is_after c =
    let r = c.args.state.now in
    let x = c.args.x.now in
    c.in_ok-draft.ensures
    ∙ ((λ i. moved_to r c.args.moment (c.weight_of_move-cost.ensures i) x (c.requires.folders i).0 (c.requires.folders i).1)
    ∙ sym (after_is r c.args.user.now c.args.moment (cost_move c.args.call.now) c.args.call.now x c.requires.found))

pub seal-requires : goal.seal-requires
seal-requires c = record {
  well = subst IsWellFormed (sym (is_after c)) (keeps_move c.args.state.now c.args.user.now c.args.moment (cost_move c.args.call.now) c.args.call.now c.step-step.ensures.well c.requires.allowed);
}

pub returns : goal.returns
returns c =
    let r = c.args.state.now in
    let x = c.args.x.now in
    c.seal.ensures ∙ (c.in_ok-draft.ensures
    ∙ ((λ i. moved_to r c.args.moment (c.weight_of_move-cost.ensures i) x (c.requires.folders i).0 (c.requires.folders i).1)
    ∙ sym (after_is r c.args.user.now c.args.moment (cost_move c.args.call.now) c.args.call.now x c.requires.found)))
