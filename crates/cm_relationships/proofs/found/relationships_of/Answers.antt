use Rattle.std.proofs.Common.{ap, ◌∙◌}
use Rattle.std.specs.List.{filter_map}
use Rattle.cm_relationships.specs.Found.{related_at}
use Rattle.cm_relationships.proofs.Ties.{related_found}
use Rattle.cm_relationships.proofs.found.relationships_of.Goals as goal

pub returns : goal.returns
returns c =
    let r = c.args.state.now in
    let u = c.args.user.now in
    c.in_ok-all.ensures
    ∙ (ap (filter_map (related_at r u c.args.direction c.args.n)) (c.as_slice.ensures ∙ c.in_ok-numbers.ensures)
    ∙ related_found r u c.args.direction c.args.n c.step-step.ensures.well.numbers)
