use Rattle.std.specs.Prelude.{◌≡◌, nat_lt, if◌then◌else◌}
use Rattle.std.proofs.Common.{ap, sym}
use Rattle.cm_base.specs.declared.cause.Cause.TheVariants as causes
use Rattle.cm_repo.specs.ServerMachine.{shown_answer, shown_step}
use Rattle.cm_repo.specs.Served.{repository}
use Rattle.cmis_spec.specs.Repository.{Repository}
use Rattle.desk_model.specs.Histories.{replay}
use Rattle.talk.specs.Session.{answer_text, refusal_text}
use Rattle.cmis_app.proofs.alike.replies_of_seen.Goals as goal

-- the step and the answer are the same, and the text is made of them
pub returns : goal.returns
returns c opened w at h last u least q other v e =
    let s : Repository = replay shown_step opened h in
    let step : s.step ≡ other.step = sym (ap (λ k. k.step) e) in
    let answer : shown_answer s u q ≡ shown_answer other u q = c.answers_of_seen.ensures s u q (c.replay_keeps.ensures opened h w) other v e in
    λ i. if nat_lt (step i) least
    then refusal_text repository.wire last (causes.StepAhead least (step i)) (step i)
    else answer_text repository.wire last (step i) (answer i)
