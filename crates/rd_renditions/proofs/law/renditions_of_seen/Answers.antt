use Rattle.std.proofs.Common.{ap}
use Rattle.std.specs.Prelude.{Ok}
use Rattle.cm_base.specs.declared.cause.Cause.TheVariants as causes
use Rattle.cm_see.specs.Addressed.{addressed}
use Rattle.cm_see.proofs.Answers.{addressed_alike, answer_alike}
use Rattle.cm_see.proofs.Worlds.{AreAlike}
use Rattle.cm_renditions.specs.Shown.{kept_renditions}
use Rattle.cm_renditions.proofs.Alike.{kept_alike}
use Rattle.rd_renditions.specs.ReadRenditions.{renditions_reply}
use Rattle.rd_renditions.proofs.law.renditions_of_seen.Goals as goal

pub returns : goal.returns
returns c r u q w other v e =
    let a : AreAlike r other u = record { well = w; other_well = v; alike = e } in
    answer_alike r other u causes.NotFound (addressed r u q.place) (addressed other u q.place)
    (λ x. Ok (renditions_reply q (kept_renditions r q.filter x)))
    (λ x. Ok (renditions_reply q (kept_renditions other q.filter x)))
    (addressed_alike r other u q.place a)
    (λ x h. ap (λ ds. Ok (renditions_reply q ds)) (kept_alike r other u q.filter x h))
