use Rattle.std.proofs.Common.{ap}
use Rattle.std.specs.Prelude.{Ok}
use Rattle.cm_base.specs.declared.cause.Cause.TheVariants as causes
use Rattle.cm_see.specs.Addressed.{addressed}
use Rattle.cm_see.proofs.Answers.{addressed_alike, answer_alike}
use Rattle.cm_see.proofs.Worlds.{AreAlike}
use Rattle.cm_actions.proofs.Alike.{actions_alike}
use Rattle.rd_actions.specs.ReadActions.{actions_reply}
use Rattle.rd_actions.proofs.law.actions_of_seen.Goals as goal

pub returns : goal.returns
returns c r u q w other v e =
    let a : AreAlike r other u = record { well = w; other_well = v; alike = e } in
    answer_alike r other u causes.NotFound (addressed r u q.place) (addressed other u q.place)
    (λ x. Ok (actions_reply r u x)) (λ x. Ok (actions_reply other u x))
    (addressed_alike r other u q.place a)
    (λ x h. ap (λ all. Ok (record { actions = all })) (actions_alike r other u a x h))
