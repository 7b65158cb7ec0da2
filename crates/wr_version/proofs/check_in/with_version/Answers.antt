use Rattle.std.proofs.Common.{◌≡◌, ◌+◌, ◌<◌, ◌^◌, true, sym, ap, subst, ◌∙◌}
use Rattle.std.specs.Prelude.{is_some}
use Rattle.cmis_spec.specs.Repository.{object_at, series_at}
use Rattle.cmis_spec.specs.Well.{IsWellFormed}
use Rattle.wr_rules.proofs.Found.{addressed_there}
use Rattle.wr_version.specs.CheckIn.{cost_check_in, after_check_in}
use Rattle.wr_version.proofs.CheckIn.{keeps_check_in}
use Rattle.wr_version.proofs.Copied.{series_some}
use Rattle.wr_version.proofs.Joined.{room_for, in_series, joined_is}
use Rattle.wr_version.proofs.check_in.with_version.Goals as goal
use Rattle.wr_version.proofs.check_in.with_version.Goals.{In_ok-draft}

pub series_after-requires : goal.series_after-requires
series_after-requires c =
    let r = c.args.state.now in
    let u = c.args.user.now in
    let call = c.args.call.now in
    record {
      there = series_some r c.args.x.now (in_series r u (cost_check_in call) call c.args.x.now c.step-step.ensures.well c.requires.allowed c.requires.found);
      room = (room_for r u (cost_check_in call) call c.step-step.ensures.well c.requires.allowed).0;
    }

pub given_content-requires : goal.given_content-requires
given_content-requires c = record { room = (room_for c.args.state.now c.args.user.now (cost_check_in c.args.call.now) c.args.call.now c.step-step.ensures.well c.requires.allowed).0 }

pub joined_in-requires : goal.joined_in-requires
joined_in-requires c =
    let r = c.args.state.now in
    let u = c.args.user.now in
    let call = c.args.call.now in
    let w = c.step-step.ensures.well in
    let room = room_for r u (cost_check_in call) call w c.requires.allowed in
    let here = in_series r u (cost_check_in call) call c.args.x.now w c.requires.allowed c.requires.found in
    record {
      copy = subst (λ n. is_some (object_at r n) ≡ true) (sym (ap (λ v. v.id) c.requires.version)) (ap is_some (addressed_there r u call.place c.args.x.now w.numbers c.requires.found));
      there = subst (λ n. is_some (series_at r n) ≡ true) (sym (ap (λ s. s.id) (c.in_ok-series.ensures here.series here.found))) (ap is_some here.there);
      step = room.0;
      cost = subst (λ k. r.cost + k < 2 ^ 64) (sym c.weight_of_check_in-cost.ensures) room.1;
    }

is_after : (c : In_ok-draft) → c.in_ok-draft.draft ≡ after_check_in c.args.state.now c.args.user.now c.args.version.modified_at (cost_check_in c.args.call.now) c.args.call.now
is_after c =
    let r = c.args.state.now in
    let u = c.args.user.now in
    let call = c.args.call.now in
    let w = c.step-step.ensures.well in
    let here = in_series r u (cost_check_in call) call c.args.x.now w c.requires.allowed c.requires.found in
    c.in_ok-draft.ensures
    ∙ (joined_is r u c.args.version.modified_at c.weight_of_check_in-cost.result call c.args.x.now c.args.version c.in_ok-series.series c.in_ok-content.content w here c.requires.found c.requires.version
    (c.in_ok-series.ensures here.series here.found) c.in_ok-content.ensures
    ∙ ap (λ k. after_check_in r u c.args.version.modified_at k call) c.weight_of_check_in-cost.ensures)

pub seal-requires : goal.seal-requires
seal-requires c = record {
  well = subst IsWellFormed (sym (is_after c)) (keeps_check_in c.args.state.now c.args.user.now c.args.version.modified_at (cost_check_in c.args.call.now) c.args.call.now c.step-step.ensures.well c.requires.allowed);
}

pub returns : goal.returns
returns c =
    let r = c.args.state.now in
    let u = c.args.user.now in
    let call = c.args.call.now in
    let w = c.step-step.ensures.well in
    let here = in_series r u (cost_check_in call) call c.args.x.now w c.requires.allowed c.requires.found in
    c.seal.ensures ∙ (c.in_ok-draft.ensures
    ∙ (joined_is r u c.args.version.modified_at c.weight_of_check_in-cost.result call c.args.x.now c.args.version c.in_ok-series.series c.in_ok-content.content w here c.requires.found c.requires.version
    (c.in_ok-series.ensures here.series here.found) c.in_ok-content.ensures
    ∙ ap (λ k. after_check_in r u c.args.version.modified_at k call) c.weight_of_check_in-cost.ensures))
