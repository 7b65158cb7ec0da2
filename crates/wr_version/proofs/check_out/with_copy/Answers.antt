use Rattle.std.proofs.Common.{◌≡◌, true, sym, ap, subst, ◌∙◌}
use Rattle.std.specs.Prelude.{is_some}
use Rattle.cmis_spec.specs.Repository.{series_at}
use Rattle.cmis_spec.specs.Well.{IsWellFormed}
use Rattle.wr_version.specs.CheckOut.{after_check_out}
use Rattle.wr_version.proofs.CheckOut.{keeps_check_out}
use Rattle.wr_version.proofs.Copied.{room_for, in_series, series_there, copied_is}
use Rattle.wr_rules.proofs.Room.{next_fits_of}
use Rattle.wr_version.proofs.Making.{made_so}
use Rattle.wr_version.proofs.check_out.with_copy.Goals as goal
use Rattle.wr_version.proofs.check_out.with_copy.Goals.{In_ok-draft}

pub copied_in-requires : goal.copied_in-requires
copied_in-requires c =
    let r = c.args.state.now in
    let w = c.step-step.ensures.well in
    let room = room_for r c.args.user.now c.args.cost c.args.call.now w c.requires.allowed in
    let there = series_there r c.args.x.now c.args.series.now (in_series r c.args.user.now c.args.cost c.args.call.now c.args.x.now w c.requires.allowed c.requires.found) c.requires.series in
    record {
      number = ap (λ x. x.id) c.in_ok-copy.ensures;
      there = subst (λ n. is_some (series_at r n) ≡ true) (sym (ap (λ s. s.id) c.in_ok-out.ensures)) (ap is_some there);
      next = next_fits_of r w;
      step = room.0;
      cost = room.1;
    }

is_after : (c : In_ok-draft) → c.in_ok-draft.draft ≡ after_check_out c.args.state.now c.args.user.now c.args.moment c.args.cost c.args.call.now
is_after c =
    let r = c.args.state.now in
    let w = c.step-step.ensures.well in
    let here = in_series r c.args.user.now c.args.cost c.args.call.now c.args.x.now w c.requires.allowed c.requires.found in
    c.in_ok-draft.ensures
    ∙ (made_so r c.args.moment c.args.cost c.args.series.now c.in_ok-out.out c.in_ok-copy.copy c.args.user.now c.in_ok-content.content w.series_numbers (series_there r c.args.x.now c.args.series.now here c.requires.series) c.in_ok-out.ensures
    ∙ copied_is r c.args.user.now c.args.moment c.args.cost c.args.call.now c.args.x.now c.in_ok-copy.copy c.args.series.now c.in_ok-content.content here c.requires.found c.requires.series c.in_ok-copy.ensures c.in_ok-content.ensures)

pub seal-requires : goal.seal-requires
seal-requires c = record { well = subst IsWellFormed (sym (is_after c)) (keeps_check_out c.args.state.now c.args.user.now c.args.moment c.args.cost c.args.call.now c.step-step.ensures.well c.requires.allowed) }

pub new_copy-requires : goal.new_copy-requires
new_copy-requires c = record { room = (room_for c.args.state.now c.args.user.now c.args.cost c.args.call.now c.step-step.ensures.well c.requires.allowed).0 }

pub returns : goal.returns
returns c =
    let r = c.args.state.now in
    let w = c.step-step.ensures.well in
    let here = in_series r c.args.user.now c.args.cost c.args.call.now c.args.x.now w c.requires.allowed c.requires.found in
    c.seal.ensures ∙ (c.in_ok-draft.ensures
    ∙ (made_so r c.args.moment c.args.cost c.args.series.now c.in_ok-out.out c.in_ok-copy.copy c.args.user.now c.in_ok-content.content w.series_numbers (series_there r c.args.x.now c.args.series.now here c.requires.series) c.in_ok-out.ensures
    ∙ copied_is r c.args.user.now c.args.moment c.args.cost c.args.call.now c.args.x.now c.in_ok-copy.copy c.args.series.now c.in_ok-content.content here c.requires.found c.requires.series c.in_ok-copy.ensures c.in_ok-content.ensures))
