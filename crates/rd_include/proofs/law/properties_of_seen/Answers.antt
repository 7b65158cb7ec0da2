use Rattle.std.proofs.Common.{ap}
use Rattle.std.specs.Prelude.{Ok, false}
use Rattle.cm_base.specs.declared.cause.Cause.TheVariants as causes
use Rattle.cm_see.specs.Addressed.{addressed}
use Rattle.cm_see.proofs.Answers.{addressed_alike, answer_alike}
use Rattle.cm_see.proofs.SeenShown.{shown_alike}
use Rattle.cm_see.proofs.Worlds.{AreAlike}
use Rattle.rd_include.specs.ShowObject.{answer_version_properties, properties_reply, version_asked}
use Rattle.rd_include.proofs.Alike.{version_alike}
use Rattle.rd_include.proofs.law.properties_of_seen.Goals as goal

pub returns : goal.returns
returns c r u q w other v e =
    let a : AreAlike r other u = record { well = w; other_well = v; alike = e } in
    answer_alike r other u causes.NotFound (addressed r u q.properties.place) (addressed other u q.properties.place)
    (answer_version_properties r u q) (answer_version_properties other u q)
    (addressed_alike r other u q.properties.place a)
    (λ x h. answer_alike r other u causes.NotFound (version_asked r u q.version x) (version_asked other u q.version x)
    (λ y. Ok (properties_reply r u q y))
    (λ y. Ok (properties_reply other u q y))
    (version_alike r other u a x h q.version)
    (λ y k. ap (λ o. Ok (record { object = o; created = false })) (shown_alike r other u a y k q.properties.filter q.properties.succinct)))
