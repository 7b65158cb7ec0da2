use Rattle.std.proofs.Common.{◌≡◌, ◌+◌, ◌<◌, ◌^◌, sym, subst, ◌∙◌}
use Rattle.cmis_spec.specs.Repository.{entry_of}
use Rattle.cmis_spec.specs.Changes.{with_pair}
use Rattle.cmis_spec.specs.Well.{IsWellFormed}
use Rattle.wr_filing.specs.Filing.{changed_by}
use Rattle.wr_filing.specs.AddToFolder.{cost_add_to_folder, after_add_to_folder}
use Rattle.wr_filing.proofs.Adding.{room_for, after_is, keeps_add}
use Rattle.wr_filing.proofs.add_to_folder.with_addition.Goals as goal
use Rattle.wr_filing.proofs.add_to_folder.with_addition.Goals.{In_ok-draft}

pub added_to-requires : goal.added_to-requires
added_to-requires c =
    let room = room_for c.args.state.now c.args.user.now (cost_add_to_folder c.args.call.now) c.args.call.now c.step-step.ensures.well c.requires.allowed in
    record { step = room.0; cost = subst (λ k. c.args.state.now.cost + k < 2 ^ 64) (sym c.weight_of_add-cost.ensures) room.1 }

is_after : (c : In_ok-draft) → c.in_ok-draft.draft ≡ after_add_to_folder c.args.state.now c.args.user.now c.args.moment (cost_add_to_folder c.args.call.now) c.args.call.now
is_after c =
    let r = c.args.state.now in
    let x = c.args.x.now in
    c.in_ok-draft.ensures
    ∙ ((λ i. changed_by (with_pair r (c.requires.folder i) (entry_of x)) x.id c.args.moment (c.weight_of_add-cost.ensures i))
    ∙ sym (after_is r c.args.user.now c.args.moment (cost_add_to_folder c.args.call.now) c.args.call.now x c.requires.found))

pub seal-requires : goal.seal-requires
seal-requires c = record {
  well = subst IsWellFormed (sym (is_after c)) (keeps_add c.args.state.now c.args.user.now c.args.moment (cost_add_to_folder c.args.call.now) c.args.call.now c.step-step.ensures.well c.requires.allowed);
}

pub returns : goal.returns
returns c =
    let r = c.args.state.now in
    let x = c.args.x.now in
    c.seal.ensures ∙ (c.in_ok-draft.ensures
    ∙ ((λ i. changed_by (with_pair r (c.requires.folder i) (entry_of x)) x.id c.args.moment (c.weight_of_add-cost.ensures i))
    ∙ sym (after_is r c.args.user.now c.args.moment (cost_add_to_folder c.args.call.now) c.args.call.now x c.requires.found)))
