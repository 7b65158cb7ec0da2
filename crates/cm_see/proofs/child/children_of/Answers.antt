use Rattle.std.proofs.Common.{◌∙◌, ap}
use Rattle.std.specs.List.{filter_map}
use Rattle.cmis_spec.specs.Access.{read_at}
use Rattle.cm_see.proofs.Children.{children_read}
use Rattle.cm_see.proofs.child.children_of.Goals as goal

pub returns : goal.returns
returns c = c.in_ok-all.ensures
    ∙ (ap (filter_map (read_at c.args.state.now c.args.user.now)) (c.as_slice.ensures ∙ c.in_ok-numbers.ensures)
    ∙ children_read c.args.state.now c.args.user.now c.args.folder c.step-step.ensures.well)
