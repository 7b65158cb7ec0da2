use Rattle.std.proofs.Common.{◌+◌, ◌<◌, ◌^◌, sym, subst, ◌∙◌}
use Rattle.cmis_spec.specs.Well.{IsWellFormed}
use Rattle.wr_types.specs.DeleteType.{cost_delete_type}
use Rattle.wr_types.specs.Retyped.{retyped}
use Rattle.wr_types.proofs.Staying.{FoldersStay}
use Rattle.wr_types.proofs.Removing.{fits, folders_stay, well_after}
use Rattle.wr_types.proofs.delete_type.without.Goals as goal

pub retyped-requires : goal.retyped-requires
retyped-requires c =
    let r = c.args.state.now in
    let u = c.args.user.now in
    let call = c.args.call.now in
    let cost = cost_delete_type call in
    let w = c.step-step.ensures.well in
    let enough = fits r u cost call w c.requires.allowed in
    record {
      folders = subst (FoldersStay r) (sym c.requires.made) (folders_stay r u cost call w c.requires.allowed);
      step = enough.0;
      cost = subst (λ k. r.cost + k < 2 ^ 64) (sym c.weight_of_delete_type.ensures) enough.1;
      well = subst IsWellFormed (λ i. retyped r (sym c.requires.made i) (sym c.weight_of_delete_type.ensures i)) (well_after r u cost call w c.requires.allowed);
    }

pub returns : goal.returns
returns c m = c.in_ok-made.ensures ∙ (λ i. retyped c.args.state.now (c.requires.made i) (c.weight_of_delete_type.ensures i))
