use Rattle.std.specs.Arc.{arc_value}
use Rattle.desk_core.proofs.Holdings.{core-puts}
use Rattle.desk_core.proofs.CoreSteps.{whole-hold, looked}
use Rattle.desk_core.proofs.turns.Core.look.Goals as goal

pub invariant_of-self : goal.invariant_of-self
invariant_of-self g c =
    let known = rw (← c.self.view_is) at c.in-Some.ensures in
    rw c.in_ok-whole.ensures (core-puts _ _ _ _ _ _ c.self.invariant (whole-hold _ _ _ _ known.2))

pub returns : goal.returns
returns g c =
    let known = rw (← c.self.view_is) at c.in-Some.ensures in
    let number = rw c.deref.ensures at c.number-number.ensures in
    rw (← c.self.view_is) (looked (record { next = g.M.Machine.next; answer = g.M.Machine.answer; number = g.M.Machine.number }) _ (arc_value c.self.inside.version) c.self.inside.held _ c.args.session _ _ c.in-Some.serial known.1 number c.in_ok-whole.ensures)
