use Rattle.std.proofs.Common.{ap, ◌∙◌, [], filter}
use Rattle.std.specs.List.{list_any}
use Rattle.cmis_spec.specs.Repository.{same}
use Rattle.cmis_spec.specs.Seen.{is_read}
use Rattle.state_rows.proofs.Parents.{parents_numbers}
use Rattle.state_rows.proofs.folders.parents_of.Goals as goal

pub returns-in_ok-all-in-Some : goal.returns-in_ok-all-in-Some
returns-in_ok-all-in-Some c =
    parents_numbers c.args.state.now c.args.user.now c.args.n c.in_ok-all-in-Some.all c.step-step.ensures.well c.in_ok-all-in-Some.ensures.rising
    (λ m. c.in_ok-all-in-Some.ensures.members m ∙ ap (list_any (same m)) (c.in_ok-read-in-Some.ensures ∙ ap (filter (is_read c.args.state.now c.args.user.now)) c.in-Some.ensures))

pub returns-in-None : goal.returns-in-None
returns-in-None c =
    c.new.ensures
    ∙ parents_numbers c.args.state.now c.args.user.now c.args.n [] c.step-step.ensures.well tt
    (λ m. ap (λ ns. list_any (same m) (filter (is_read c.args.state.now c.args.user.now) ns)) c.in-None.ensures)
