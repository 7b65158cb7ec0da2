use Rattle.std.proofs.Common.{◌+◌, ◌<◌, ◌^◌, sym, ap, subst, ◌∙◌}
use Rattle.cmis_spec.specs.Repository.{Repository}
use Rattle.cmis_spec.specs.Changes.{stepped}
use Rattle.cmis_spec.specs.Well.{IsWellFormed}
use Rattle.cmis_laws.proofs.Steps.{step_keeps}
use Rattle.wr_rules.proofs.Room.{room_of, fits_of}
use Rattle.wr_change.proofs.change.begun.Goals as goal

pub stepped-paid-requires : goal.stepped-paid-requires
stepped-paid-requires c =
    let fits = fits_of c.args.state.now c.args.cost c.step-step.ensures.well (room_of c.args.state.now c.args.cost c.requires.allowed) in
    record {
      step = subst (λ (r : Repository). r.step + 1 < 2 ^ 64) (sym c.in_ok-begun.ensures) fits.0;
      cost = subst (λ (r : Repository). r.cost + c.args.cost < 2 ^ 64) (sym c.in_ok-begun.ensures) fits.1;
    }

pub seal-requires : goal.seal-requires
seal-requires c = record {
  well = subst IsWellFormed (sym (c.stepped-paid.ensures ∙ ap (λ r. stepped r c.args.cost) c.in_ok-begun.ensures))
      (step_keeps c.args.state.now c.args.cost c.step-step.ensures.well (room_of c.args.state.now c.args.cost c.requires.allowed));
}
