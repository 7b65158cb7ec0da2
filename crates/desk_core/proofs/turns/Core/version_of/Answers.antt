use Rattle.std.proofs.Common.{◌≡◌, ◌∙◌, ap}
use Rattle.desk_core.proofs.Holdings.{core-holds, core-misses}
use Rattle.desk_core.proofs.turns.Core.version_of.Goals as goal

pub returns-in-Some : goal.returns-in-Some
returns-in-Some g c =
    let seen : c.deref.result.now ≡ c.in-Some.held.now.seen = c.deref.ensures ∙ ap (λ h. h.seen) c.held.view_is in
    rw seen (core-holds _ _ _ _ _ _ _ c.self.view_is c.self.invariant c.in-Some.ensures)

pub returns-in-None : goal.returns-in-None
returns-in-None g c = core-misses _ _ _ _ _ c.self.view_is c.in-None.ensures
