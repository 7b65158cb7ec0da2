use Rattle.cm_see.proofs.Worlds.{AreAlike}
use Rattle.rd_trees.proofs.Copies.{checked_out_alike}
use Rattle.rd_trees.proofs.law.checked_out_of_seen.Goals as goal

pub returns : goal.returns
returns c r u q w other v e =
    let a : AreAlike r other u = record { well = w; other_well = v; alike = e } in
    checked_out_alike r other u a q q.checked_out.place
