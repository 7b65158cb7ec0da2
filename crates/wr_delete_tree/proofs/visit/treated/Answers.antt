use Rattle.std.proofs.Common.{◌∙◌, sym}
use Rattle.wr_delete_tree.proofs.Keeping.{deletion_keeps, taking_keeps}
use Rattle.wr_delete_tree.proofs.visit.treated.Goals as goal

pub removed-requires : goal.removed-requires
removed-requires c = record {
  well = deletion_keeps c.args.state.now c.args.view.user.now c.args.view.moment c.args.view.call.now c.args.view.tree.now c.args.n
      c.step-well.ensures.well c.requires.filed c.requires.able (sym c.is_to_go.ensures ∙ c.if-is_to_go.true);
}

pub taken_out-requires : goal.taken_out-requires
taken_out-requires c = record {
  well = taking_keeps c.args.state.now c.args.view.moment c.args.view.call.now c.args.view.tree.now c.args.n
      c.step-well.ensures.well c.requires.filed (sym c.is_to_go.ensures ∙ c.if-is_to_go.false);
}
