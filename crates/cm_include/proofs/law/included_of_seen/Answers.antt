use Rattle.cm_see.specs.Addressed.{addressed}
use Rattle.cm_see.proofs.Answers.{addressed_alike}
use Rattle.cm_see.proofs.Worlds.{AreAlike, IsFound}
use Rattle.cm_include.proofs.Alike.{included_alike}
use Rattle.cm_include.proofs.law.included_of_seen.Goals as goal

pub returns : goal.returns
returns c r u place f succinct i x w at other v e =
    let a : AreAlike r other u = record { well = w; other_well = v; alike = e } in
    let there : IsFound r other u (addressed r u place) (addressed other u place) = addressed_alike r other u place a in
    included_alike r other u a x (there.each x at) f succinct i
