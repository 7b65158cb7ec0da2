use Rattle.std.proofs.Common.{ap, ◌∙◌, []}
use Rattle.std.specs.List.{list_any, flat_map}
use Rattle.cmis_spec.specs.Repository.{same}
use Rattle.cm_state.specs.Looks.{entries_in}
use Rattle.state_rows.specs.Entries.{rows_at}
use Rattle.state_rows.proofs.FiledIn.{filed_numbers}
use Rattle.state_rows.proofs.filed.filed_in.Goals as goal

pub returns-in_ok-all-in-Some : goal.returns-in_ok-all-in-Some
returns-in_ok-all-in-Some c =
    filed_numbers c.args.state.now c.step-step.ensures.well c.args.folder c.in_ok-all-in-Some.all c.in_ok-all-in-Some.ensures.rising
    (λ m. c.in_ok-all-in-Some.ensures.members m ∙ ap (list_any (same m)) (c.in_ok-found-in-Some.ensures ∙ ap (flat_map (rows_at c.args.state.now)) (c.in-Some.ensures ∙ ap (λ r. entries_in r c.args.folder) c.parts.ensures)))

pub returns-in-None : goal.returns-in-None
returns-in-None c =
    c.new.ensures
    ∙ filed_numbers c.args.state.now c.step-step.ensures.well c.args.folder [] tt
    (λ m. ap (λ ns. list_any (same m) (flat_map (rows_at c.args.state.now) ns)) (c.in-None.ensures ∙ ap (λ r. entries_in r c.args.folder) c.parts.ensures))
