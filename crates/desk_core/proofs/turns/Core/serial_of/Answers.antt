use Rattle.std.proofs.Common.{◌∙◌, ap}
use Rattle.desk_core.proofs.Holdings.{core-knows, core-misses}
use Rattle.desk_core.proofs.turns.Core.serial_of.Goals as goal

pub returns-in-Some : goal.returns-in-Some
returns-in-Some g c =
    let k = core-knows _ _ _ _ _ _ _ c.self.view_is c.self.invariant c.in-Some.ensures in
    (k.0, k.1, ap (λ h. h.serial) c.held.view_is ∙ k.2)

pub returns-in-None : goal.returns-in-None
returns-in-None g c = core-misses _ _ _ _ _ c.self.view_is c.in-None.ensures
