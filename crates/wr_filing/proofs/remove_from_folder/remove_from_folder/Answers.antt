use Rattle.std.proofs.Common.{sym, ap, ◌∙◌}
use Rattle.std.specs.Prelude.{is_some, false, unwrap_or}
use Rattle.call_parts.specs.declared.readings.PropertyFilter.TheVariants as filters
use Rattle.cm_see.specs.Shown.{shown_object}
use Rattle.cmis_spec.specs.Repository.{root_folder}
use Rattle.wr_filing.specs.RemoveFromFolder.{cost_remove_from_folder}
use Rattle.wr_filing.proofs.Removing.{removal_found}
use Rattle.wr_filing.proofs.remove_from_folder.remove_from_folder.Goals as goal

pub with_changed-requires : goal.with_changed-requires
with_changed-requires c = record {
  there = ap is_some (removal_found c.args.state.now c.args.user.now c.args.moment (cost_remove_from_folder c.args.call.now) c.args.call.now c.in_ok-removed.removed c.in_ok-x.x.now c.step-step.ensures.well.numbers c.in_ok-x.ensures.1 c.in_ok-removed.ensures);
}

pub returns-clause-written : goal.returns-clause-written
returns-clause-written c =
    let r = c.args.state.now in
    let u = c.args.user.now in
    let m = c.args.moment in
    let call = c.args.call.now in
    let x = c.in_ok-x.x.now in
    let there = removal_found r u m (cost_remove_from_folder call) call c.in_ok-removed.removed x c.step-step.ensures.well.numbers c.in_ok-x.ensures.1 c.in_ok-removed.ensures in
    let it = sym (ap (λ o. unwrap_or o (root_folder u m r.step)) c.in_ok-x.ensures.1) in (
      c.in_ok-x.ensures.0,
      c.in_ok-next.ensures.same ∙ c.in_ok-removed.ensures,
      c.in_ok-next.ensures.shown x there
          ∙ (λ i. record { object = shown_object (c.in_ok-removed.ensures i) u filters.All call.succinct (it i); created = false }),
    )
