use Rattle.std.proofs.Common.{sym, ap, refl, length, ◌∙◌}
use Rattle.std.specs.Arc.{arc_value}
use Rattle.desk_model.specs.Histories.{own}
use Rattle.desk_model.proofs.Passes.{one-new, one-stays}
use Rattle.desk_model.proofs.OwnEntries.{own-new, below-weaker}
use Rattle.desk_model.proofs.one.OneDesk.pass.Goals as goal

pub invariant_of-result : goal.invariant_of-result
invariant_of-result g c = rw c.in_ok-seen.ensures (sym (ap length (own-new c.self.inside.base c.self.inside.made (arc_value c.self.inside.version).journal c.self.invariant.1)))

pub invariant_of-self : goal.invariant_of-self
invariant_of-self g c = (c.self.invariant.0, below-weaker _ _ c.self.invariant.1)

pub returns-clause-ok : goal.returns-clause-ok
returns-clause-ok g c =
    let lawful = rw (c.deref.ensures, c.in_ok-seen.ensures) at c.lawful.ensures in
    let new = own-new c.self.inside.base c.self.inside.made (arc_value c.self.inside.version).journal c.self.invariant.1 in
    rw (← c.self.view_is) (
      one-new g.M.Machine.next _ _ _ _ _ lawful c.self.invariant.0 c.self.invariant.1 c.in_ok-seen.ensures,
      refl,
      ap (λ v. v.opening) c.in_ok-seen.ensures,
      refl,
      ap (λ v. v.journal) c.in_ok-seen.ensures,
      ap (λ v. own c.self.inside.base c.self.inside.made v.journal) c.in_ok-seen.ensures ∙ new,
    )

pub returns-clause-passes : goal.returns-clause-passes
returns-clause-passes g c = λ p of. one-stays g.M.Machine.next _ _ _ _ p (rw (← c.self.view_is) at of)
