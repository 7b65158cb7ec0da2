use Rattle.std.proofs.Common.{ap, ◌∙◌}
use Rattle.std.specs.List.{list_any, flat_map}
use Rattle.cmis_spec.specs.Repository.{same}
use Rattle.cm_state.specs.Looks.{numbers_of_type}
use Rattle.state_rows.proofs.OfTypes.{typed_numbers}
use Rattle.state_rows.proofs.walk.of_types.Goals as goal

pub returns : goal.returns
returns c =
    let r = c.args.state.now in
    typed_numbers r c.step-step.ensures.well c.args.kinds.now c.in_ok-all.all c.in_ok-all.ensures.rising
    (λ m. c.in_ok-all.ensures.members m ∙ ap (list_any (same m)) (c.in_ok-found.ensures ∙ ap (flat_map (numbers_of_type r)) c.as_slice.ensures))
