use Rattle.cm_see.proofs.Objects.{here_read}
use Rattle.cm_see.proofs.Worlds.{AreAlike, read_at_alike}
use Rattle.cm_actions.proofs.Alike.{actions_alike}
use Rattle.cm_actions.proofs.law.actions_of_seen.Goals as goal

pub returns : goal.returns
returns c r u x w there read other v e =
    let a : AreAlike r other u = record { well = w; other_well = v; alike = e } in
    actions_alike r other u a x ((read_at_alike r other u x.id a).each x (here_read r u x (there, read)))
