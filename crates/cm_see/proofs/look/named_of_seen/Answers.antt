use Rattle.cm_see.proofs.Worlds.{IsFound, read_named_alike}
use Rattle.cmis_spec.specs.Access.{read_named}
use Rattle.cm_see.proofs.look.named_of_seen.Goals as goal

pub returns : goal.returns
returns c r u id w other v e =
    let found : IsFound r other u (read_named r u id) (read_named other u id) = read_named_alike r other u id (record { well = w; other_well = v; alike = e }) in
    found.same
