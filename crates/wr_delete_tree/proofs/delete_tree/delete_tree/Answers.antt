use Rattle.std.proofs.Common.{◌∙◌}
use Rattle.cmis_laws.proofs.Steps.{step_keeps}
use Rattle.wr_rules.proofs.Room.{fits_of}
use Rattle.wr_delete_tree.specs.DeleteTree.{cost_delete_tree}
use Rattle.wr_delete_tree.proofs.Answered.{room_for, after_is, reply_is}
use Rattle.wr_delete_tree.proofs.delete_tree.delete_tree.Goals as goal

pub deleted-requires : goal.deleted-requires
deleted-requires c =
    let r = c.args.state.now in
    let call = c.args.call.now in
    let cost = cost_delete_tree call in
    let room = room_for r c.args.user.now cost call c.in_ok-x.ensures.0 in
    let fits = fits_of r cost c.step-well.ensures.well room in
    record {
      step = fits.0;
      cost = fits.1;
      well = step_keeps r cost c.step-well.ensures.well room;
    }

pub returns-clause-written : goal.returns-clause-written
returns-clause-written c =
    let r = c.args.state.now in
    let u = c.args.user.now in
    let m = c.args.moment in
    let call = c.args.call.now in
    let cost = cost_delete_tree call in
    let x = c.in_ok-x.x.now in
    let at = c.in_ok-x.ensures.1 in (
      c.in_ok-x.ensures.0,
      c.in_ok-next.ensures.after ∙ after_is r u m cost call x at,
      c.in_ok-next.ensures.left ∙ reply_is r u m cost call x at,
    )
