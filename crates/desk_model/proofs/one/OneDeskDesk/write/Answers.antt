use Rattle.std.proofs.Common.{refl}
use Rattle.std.specs.Arc.{arc_value}
use Rattle.desk_model.proofs.Passes.{one-sees, one-adds, one-wrote}
use Rattle.desk_model.proofs.one.OneDeskDesk.write.Goals as goal

pub returns-then-number-least-clause-is_of : goal.returns-then-number-least-clause-is_of
returns-then-number-least-clause-is_of g c =
    let lawful = rw c.deref.ensures at c.lawful.ensures in
    one-sees g.M.Machine.next _ _ _ _ _ _ _ _ c.self.view_is c.requires lawful c.in-Ok.ensures c.see.ensures

pub add-requires : goal.add-requires
add-requires g c =
    let is = rw c.in-Ok-entry.ensures at c.in-Ok-next_of.ensures.grown.0 in
    rw c.in-Ok-next_of.ensures.grown.1
    (one-adds g.M.Machine.next _ _ _ _ _ c.args.pass.now _ (rw (← c.self.view_is) at c.requires) is refl refl).count

pub returns-in-Ok-next_of-clause-wrote : goal.returns-in-Ok-next_of-clause-wrote
returns-in-Ok-next_of-clause-wrote g c =
    let is = rw c.in-Ok-entry.ensures at c.in-Ok-next_of.ensures.grown.0 in
    let told = rw c.in-Ok-entry.ensures at c.in-Ok-next_of.ensures.told in
    let knows = rw c.in-Ok-next_of.ensures.grown.1 at c.add.ensures in
    let num = rw c.deref-2.ensures at c.number-number.ensures in
    one-wrote g.M.Machine.next g.M.Machine.number _ _ _ _ _ c.args.pass.now _ _ _ _ _ _ _ (rw (← c.self.view_is) at c.requires) is knows num c.if-number-least.false told

pub returns-in-Ok-next_of-clause-is_of : goal.returns-in-Ok-next_of-clause-is_of
returns-in-Ok-next_of-clause-is_of g c =
    let is = rw c.in-Ok-entry.ensures at c.in-Ok-next_of.ensures.grown.0 in
    rw (c.add.ensures, c.in-Ok-next_of.ensures.grown.1)
    ((one-adds g.M.Machine.next _ _ _ _ _ c.args.pass.now _ (rw (← c.self.view_is) at c.requires) is refl refl).of c.in-Ok-next_of.ensures.lawful)

pub returns-in-Ok-next_of-clause-passes : goal.returns-in-Ok-next_of-clause-passes
returns-in-Ok-next_of-clause-passes g c =
    let is = rw c.in-Ok-entry.ensures at c.in-Ok-next_of.ensures.grown.0 in
    λ q ne h. (one-adds g.M.Machine.next _ _ _ _ _ c.args.pass.now _ (rw (← c.self.view_is) at c.requires) is refl refl).others q ne (rw (← c.self.view_is) at h)

pub returns-in-Err-Refused-clause-is_of : goal.returns-in-Err-Refused-clause-is_of
returns-in-Err-Refused-clause-is_of g c =
    let lawful = rw c.deref.ensures at c.lawful.ensures in
    one-sees g.M.Machine.next _ _ _ _ _ _ _ _ c.self.view_is c.requires lawful c.in-Ok.ensures c.see-in-Err-Refused.ensures

pub invariant_of-self : goal.invariant_of-self
invariant_of-self g c =
    let is = rw c.in-Ok-entry.ensures at c.in-Ok-next_of.ensures.grown.0 in
    let adds = one-adds g.M.Machine.next (arc_value c.self.inside.version) (arc_value c.in-Ok-next_of.version) c.self.inside.base c.self.inside.made (g.C.Clock.words c.self.inside.clock) c.args.pass.now _ (rw (← c.self.view_is) at c.requires) is refl refl in
    (adds.begun, adds.few)
