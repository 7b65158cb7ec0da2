use Rattle.cm_see.proofs.Answers.{addressed_alike}
use Rattle.cm_see.proofs.Worlds.{AreAlike}
use Rattle.cm_renditions.proofs.Alike.{renditions_alike}
use Rattle.cm_renditions.proofs.law.renditions_of_seen.Goals as goal

pub returns : goal.returns
returns c r u place f x w at other v e =
    let a : AreAlike r other u = record { well = w; other_well = v; alike = e } in
    renditions_alike r other u f x ((addressed_alike r other u place a).each x at)
