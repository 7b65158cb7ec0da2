use Rattle.std.proofs.Common.{ap}
use Rattle.std.specs.Prelude.{Ok}
use Rattle.cm_base.specs.declared.cause.Cause.TheVariants as causes
use Rattle.cm_see.specs.Addressed.{addressed}
use Rattle.cm_see.proofs.Answers.{addressed_alike, answer_alike}
use Rattle.cm_see.proofs.Worlds.{AreAlike}
use Rattle.rd_access.specs.ReadAcl.{acl_reply, shown_aces}
use Rattle.rd_access.proofs.law.acl_of_seen.Goals as goal

pub returns : goal.returns
returns c r u q w other v e =
    let a : AreAlike r other u = record { well = w; other_well = v; alike = e } in
    answer_alike r other u causes.NotFound (addressed r u q.place) (addressed other u q.place)
    (λ x. Ok (acl_reply r x))
    (λ x. Ok (acl_reply other x))
    (addressed_alike r other u q.place a)
    (λ x h. ap (λ o. Ok (record { aces = shown_aces o.aces })) h.alike)
