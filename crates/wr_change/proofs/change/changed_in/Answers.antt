use Rattle.std.proofs.Common.{sym, ap, subst, ◌∙◌}
use Rattle.cm_base.specs.declared.object.Object.{Object}
use Rattle.cmis_spec.specs.Well.{IsWellFormed}
use Rattle.wr_change.specs.Update.{placed}
use Rattle.wr_change.proofs.Put.{object_is}
use Rattle.wr_change.proofs.Updating.{changed_well}
use Rattle.wr_change.proofs.change.changed_in.Goals as goal

pub placed-requires : goal.placed-requires
placed-requires c =
    let r = c.args.state.now in
    let u = c.args.user.now in
    let m = c.args.moment in
    let call = c.args.call.now in
    let x = c.args.found.0.now in
    let new = object_is r u m call x c.in_ok-kept.kept c.in_ok-new.new c.args.found.1 c.in_ok-kept.ensures c.in_ok-new.ensures c.requires.values in
    record {
      there = c.requires.right.there;
      id = ap (λ (y : Object). y.id) new;
      well = subst (λ y. IsWellFormed (placed r call x y)) (sym new) (changed_well r u m call x c.step-step.ensures.well c.requires.right);
    }

pub returns : goal.returns
returns c =
    let r = c.args.state.now in
    let u = c.args.user.now in
    let m = c.args.moment in
    let call = c.args.call.now in
    let x = c.args.found.0.now in
    c.in_ok-made.ensures
    ∙ ap (placed r call x) (object_is r u m call x c.in_ok-kept.kept c.in_ok-new.new c.args.found.1 c.in_ok-kept.ensures c.in_ok-new.ensures c.requires.values)
