use Rattle.std.proofs.Common.{arith, ap, length}
use Rattle.std.specs.Arc.{arc_value}
use Rattle.desk_model.proofs.OwnEntries.{own-length}
use Rattle.desk_model.proofs.one.OnePass.add.Goals as goal

pub overflow_add-self : goal.overflow_add-self
overflow_add-self g c =
    let r = c.requires in
    omega (arith, r, own-length c.args.self.now.base c.args.self.now.session (arc_value c.args.version).journal, c.self.invariant, ap (λ k. length k.own) c.self.view_is, c.len-len.ensures, ap (λ v. length v.journal) c.deref.ensures, c.len-len.type_inv)
