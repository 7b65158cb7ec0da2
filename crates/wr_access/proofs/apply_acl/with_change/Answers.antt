use Rattle.std.proofs.Common.{◌≡◌, ◌+◌, ◌<◌, ◌^◌, true, sym, subst, ◌∙◌}
use Rattle.std.specs.Prelude.{find, is_some}
use Rattle.cmis_spec.specs.Repository.{same}
use Rattle.wr_access.specs.ApplyAcl.{cost_apply_acl}
use Rattle.wr_access.proofs.Allowed.{fits, list_there}
use Rattle.wr_access.proofs.Changed.{list_is, relisted_is, relisted_well}
use Rattle.wr_access.proofs.apply_acl.with_change.Goals as goal

pub relisted-requires : goal.relisted-requires
relisted-requires c =
    let r = c.args.state.now in
    let u = c.args.user.now in
    let call = c.args.call.now in
    let x = c.args.x.now in
    let w = c.step-step.ensures.well in
    let enough = fits r u (cost_apply_acl call) call w c.requires.allowed in
    record {
      there = subst (λ n. is_some (find (λ l. same l.at n) r.access) ≡ true) (sym c.entry_of-at.ensures) (list_there r u call x w c.requires.found);
      step = enough.0;
      cost = subst (λ k. r.cost + k < 2 ^ 64) (sym c.weight_of_apply_acl-cost.ensures) enough.1;
      well = relisted_well r u c.args.moment (cost_apply_acl call) c.weight_of_apply_acl-cost.result call x (record { at = c.entry_of-at.result; aces = c.in_ok-aces.aces }) w c.requires.allowed
          c.in_ok-aces.ensures.ordered (list_is r call x c.entry_of-at.result c.in_ok-aces.aces c.entry_of-at.ensures c.in_ok-aces.ensures.list) c.weight_of_apply_acl-cost.ensures;
    }

pub returns : goal.returns
returns c =
    let r = c.args.state.now in
    let call = c.args.call.now in
    let x = c.args.x.now in
    c.in_ok-made.ensures
    ∙ relisted_is r c.args.user.now c.args.moment (cost_apply_acl call) c.weight_of_apply_acl-cost.result call x (record { at = c.entry_of-at.result; aces = c.in_ok-aces.aces }) c.requires.found
    (list_is r call x c.entry_of-at.result c.in_ok-aces.aces c.entry_of-at.ensures c.in_ok-aces.ensures.list) c.weight_of_apply_acl-cost.ensures
