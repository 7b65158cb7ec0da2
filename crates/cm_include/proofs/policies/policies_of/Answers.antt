use Rattle.std.proofs.Common.{ap, ◌∙◌}
use Rattle.std.specs.List.{filter_map, list_any}
use Rattle.cmis_spec.specs.Repository.{same}
use Rattle.cmis_spec.specs.Access.{read_at}
use Rattle.cm_include.proofs.Applied.{policies_read}
use Rattle.cm_include.proofs.policies.policies_of.Goals as goal

pub returns : goal.returns
returns c =
    let r = c.args.state.now in
    let u = c.args.user.now in
    let n = c.args.n in
    c.in_ok-all.ensures
    ∙ (ap (filter_map (read_at r u)) c.as_slice-2.ensures
    ∙ policies_read r u n c.in_ok-rising.rising c.step-step.ensures.well c.in_ok-rising.ensures.rising
    (λ m. c.in_ok-rising.ensures.members m
    ∙ ap (list_any (same m)) (c.as_slice.ensures ∙ c.in_ok-numbers.ensures)))
