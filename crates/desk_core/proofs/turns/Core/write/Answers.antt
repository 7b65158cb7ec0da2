use Rattle.std.proofs.Common.{◌∙◌, ◌+◌, ap, refl, arith}
use Rattle.std.specs.Arc.{arc_value}
use Rattle.desk_core.specs.Interleaving.{Rules}
use Rattle.desk_core.specs.Holds.{world_of}
use Rattle.desk_core.proofs.Holdings.{core-puts, core-grows}
use Rattle.desk_core.proofs.CoreSteps.{whole-hold, entry_so, refused_so, wrote_so, serial_fits}
use Rattle.desk_core.proofs.turns.Core.write.Goals as goal

pub overflow_add-serial : goal.overflow_add-serial
overflow_add-serial g c =
    let known = rw (← c.self.view_is) at c.in-Some.ensures in
    let grows = rw c.deref.ensures at c.in-Ok.ensures.grown in
    let fits = serial_fits _ _ _ _ _ _ _ _ c.self.invariant grows refl known.2 in
    omega (arith, fits, c.len-len.ensures, c.len-len.type_inv)

pub invariant_of-self : goal.invariant_of-self
invariant_of-self g c =
    let known = rw (← c.self.view_is) at c.in-Some.ensures in
    let grows = rw c.deref.ensures at c.in-Ok.ensures.grown in
    let stored = c.in_ok-version-in-Ok.ensures.ok in
    rw c.in_ok-held-in-Ok.ensures
    (core-grows _ _ _ _ _ _ _ _ c.self.invariant (stored ∙ grows) refl known.2 refl (ap (λ k. k + 1) known.2))

pub invariant_of-self-in-Err-Refused : goal.invariant_of-self-in-Err-Refused
invariant_of-self-in-Err-Refused g c =
    let known = rw (← c.self.view_is) at c.in-Some.ensures in
    rw c.in_ok-seen-in-Err-Refused.ensures (core-puts _ _ _ _ _ _ c.self.invariant (whole-hold _ _ _ _ known.2))

pub returns-in_ok-held-in-Ok : goal.returns-in_ok-held-in-Ok
returns-in_ok-held-in-Ok g c =
    let m : Rules _ _ _ _ _ = record { next = g.M.Machine.next; answer = g.M.Machine.answer; number = g.M.Machine.number } in
    let known = rw (← c.self.view_is) at c.in-Some.ensures in
    let grows = rw c.deref.ensures at c.in-Ok.ensures.grown in
    let due = rw c.deref.ensures at c.in-Ok.ensures.told in
    let stored = c.in_ok-version-in-Ok.ensures.ok in
    let number = rw (← stored) at c.number-number.ensures in
    rw (← c.self.view_is)
    (wrote_so m c.self.inside.base (arc_value c.self.inside.version) (arc_value c.in_ok-version-in-Ok.version) c.self.inside.held _ c.args.session _ _ (c.in-Some.serial + 1) c.args.user c.args.moment c.args.call _ _ known.1 (entry_so m (world_of c.self.inside.base (arc_value c.self.inside.version) c.self.inside.held) c.args.session c.in-Some.serial c.args.user c.args.moment c.args.call known.2) due (stored ∙ grows) number c.in_ok-held-in-Ok.ensures)

pub returns-in_ok-seen-in-Err-Refused : goal.returns-in_ok-seen-in-Err-Refused
returns-in_ok-seen-in-Err-Refused g c =
    let m : Rules _ _ _ _ _ = record { next = g.M.Machine.next; answer = g.M.Machine.answer; number = g.M.Machine.number } in
    let known = rw (← c.self.view_is) at c.in-Some.ensures in
    let told = rw c.in-Err-Refused.field-0-is at c.in-Err-Refused.ensures.told in
    let due = rw c.deref.ensures at told in
    let number = rw c.deref-in-Err-Refused.ensures at c.number-number-in-Err-Refused.ensures in
    rw (← c.self.view_is)
    (refused_so m c.self.inside.base (arc_value c.self.inside.version) c.self.inside.held _ c.args.session _ _ c.in-Some.serial c.args.user c.args.moment c.args.call _ _ known.1 (entry_so m (world_of c.self.inside.base (arc_value c.self.inside.version) c.self.inside.held) c.args.session c.in-Some.serial c.args.user c.args.moment c.args.call known.2) due number c.in_ok-seen-in-Err-Refused.ensures)
