use Rattle.desk_core.proofs.Holdings.{core-puts}
use Rattle.desk_core.proofs.CoreSteps.{begins-hold, entered}
use Rattle.desk_core.proofs.turns.Core.enter.Goals as goal

pub invariant_of-self : goal.invariant_of-self
invariant_of-self g c =
    let none = rw (← c.self.view_is) at c.in-None.ensures in
    rw c.in_ok-held.ensures (core-puts _ _ _ _ _ _ c.self.invariant (begins-hold _ _ _ _ _ c.self.invariant none))

pub returns : goal.returns
returns g c =
    let none = rw (← c.self.view_is) at c.in-None.ensures in
    let number = rw c.deref.ensures at c.number-number.ensures in
    rw (← c.self.view_is) (entered (record { next = g.M.Machine.next; answer = g.M.Machine.answer; number = g.M.Machine.number }) _ _ _ _ _ _ _ c.self.invariant none number c.in_ok-held.ensures)
