use Rattle.std.proofs.Common.{subst, sym, ap, ◌∙◌}
use Rattle.cmis_spec.specs.Changes.{stepped}
use Rattle.cmis_spec.specs.Removal.{deleted}
use Rattle.cmis_spec.specs.Well.{IsWellFormed}
use Rattle.wr_remove.proofs.Cancelled.{keeps_cancel, cancel_is, cancel_fits}
use Rattle.wr_remove.proofs.cancel_check_out.cancelled.Goals as goal

pub without-requires : goal.without-requires
without-requires c =
    let r = c.args.state.now in
    let u = c.args.user.now in
    let m = c.args.moment in
    let cost = c.args.cost in
    let call = c.args.call.now in
    let ok = c.in_ok-x.ensures.0 in
    let fits = cancel_fits r u cost call c.step-well.ensures.well ok in
    record {
      step = fits.0;
      cost = fits.1;
      well = subst IsWellFormed (sym (ap (λ ns. stepped (deleted r m ns) cost) (c.as_slice.ensures ∙ c.in_ok-numbers.ensures) ∙ cancel_is r u m cost call c.in_ok-x.x.now c.in_ok-x.ensures.1))
          (keeps_cancel r u m cost call c.step-well.ensures.well ok);
    }

pub returns : goal.returns
returns c =
    let r = c.args.state.now in
    let u = c.args.user.now in
    let m = c.args.moment in
    let cost = c.args.cost in
    let call = c.args.call.now in
    (c.in_ok-x.ensures.0, c.in_ok-made.ensures ∙ (ap (λ ns. stepped (deleted r m ns) cost) (c.as_slice.ensures ∙ c.in_ok-numbers.ensures) ∙ cancel_is r u m cost call c.in_ok-x.x.now c.in_ok-x.ensures.1))
