use Rattle.cm_see.proofs.Worlds.{IsFound, at_path_alike}
use Rattle.cmis_spec.specs.Access.{at_path}
use Rattle.cm_see.proofs.look.path_of_seen.Goals as goal

pub returns : goal.returns
returns c r u names w other v e =
    let found : IsFound r other u (at_path r u names) (at_path other u names) = at_path_alike r other u names (record { well = w; other_well = v; alike = e }) in
    found.same
