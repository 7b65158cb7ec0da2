use Rattle.std.proofs.Common.{ap}
use Rattle.std.specs.Prelude.{Ok}
use Rattle.cm_base.specs.declared.cause.Cause.TheVariants as causes
use Rattle.cm_see.specs.Addressed.{addressed}
use Rattle.cm_include.proofs.Alike.{included_alike}
use Rattle.cm_see.proofs.Answers.{addressed_alike, answer_alike}
use Rattle.cm_see.proofs.Worlds.{AreAlike}
use Rattle.rd_include.specs.ShowObject.{answer_version, included_reply, version_asked}
use Rattle.rd_include.proofs.Alike.{version_alike}
use Rattle.rd_include.proofs.law.object_of_seen.Goals as goal

pub returns : goal.returns
returns c r u q w other v e =
    let a : AreAlike r other u = record { well = w; other_well = v; alike = e } in
    answer_alike r other u causes.NotFound (addressed r u q.object.place) (addressed other u q.object.place)
    (answer_version r u q) (answer_version other u q)
    (addressed_alike r other u q.object.place a)
    (λ x h. answer_alike r other u causes.NotFound (version_asked r u q.version x) (version_asked other u q.version x)
    (λ y. Ok (included_reply r u q.object.filter q.object.succinct q.includes y))
    (λ y. Ok (included_reply other u q.object.filter q.object.succinct q.includes y))
    (version_alike r other u a x h q.version)
    (λ y k. ap (λ o. Ok (record { object = o })) (included_alike r other u a y k q.object.filter q.object.succinct q.includes)))
