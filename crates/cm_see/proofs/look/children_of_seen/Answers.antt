use Rattle.cm_see.specs.Addressed.{addressed}
use Rattle.cmis_spec.specs.Access.{children_of}
use Rattle.cm_see.proofs.Answers.{addressed_alike}
use Rattle.cm_see.proofs.Worlds.{AreAlike, AreFound, IsFound, children_alike}
use Rattle.cm_see.proofs.look.children_of_seen.Goals as goal

pub returns : goal.returns
returns c r u place f w at other v e =
    let a : AreAlike r other u = record { well = w; other_well = v; alike = e } in
    let there : IsFound r other u (addressed r u place) (addressed other u place) = addressed_alike r other u place a in
    let found : AreFound r other u (children_of r u f.id) (children_of other u f.id) = children_alike r other u f a (there.each f at) in
    found.same
