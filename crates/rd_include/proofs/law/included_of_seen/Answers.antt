use Rattle.std.proofs.Common.{ap}
use Rattle.std.specs.Prelude.{Ok}
use Rattle.cm_base.specs.declared.cause.Cause.TheVariants as causes
use Rattle.cm_see.specs.Addressed.{addressed}
use Rattle.cm_include.proofs.Alike.{included_alike}
use Rattle.cm_see.proofs.Answers.{addressed_alike, answer_alike}
use Rattle.cm_see.proofs.Worlds.{AreAlike}
use Rattle.rd_include.specs.ShowObject.{included_reply}
use Rattle.rd_include.proofs.law.included_of_seen.Goals as goal

pub returns : goal.returns
returns c r u place f succinct i w other v e =
    let a : AreAlike r other u = record { well = w; other_well = v; alike = e } in
    answer_alike r other u causes.NotFound (addressed r u place) (addressed other u place)
    (λ x. Ok (included_reply r u f succinct i x))
    (λ x. Ok (included_reply other u f succinct i x))
    (addressed_alike r other u place a)
    (λ x h. ap (λ o. Ok (record { object = o })) (included_alike r other u a x h f succinct i))
