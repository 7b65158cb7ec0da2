use Rattle.std.proofs.Common.{sym, ap, ◌≡◌, ◌∙◌, ◌≤◌, ◌+◌, subst, length, take, drop}
use Rattle.std.specs.Prelude.{IfSome, is_some, not, ◌&&◌}
use Rattle.archive.specs.Extents.{Stands}
use Rattle.archive.proofs.Parts.{read_known}
use Rattle.archive.proofs.extent.Extent.read.Goals as goal

pub returns-in-Ok : goal.returns-in-Ok
returns-in-Ok c known =
    let s = c.self.inside in
    let told = s.archive.value in
    read_known told c.args.known s.place s.len c.args.from (length c.args.room.now) c.args.self.now c.read.new.room
    (subst (Stands told s.place s.len) c.self.view_is c.self.invariant)
    (ap (λ t. c.args.known && not (is_some t)) (sym c.deref.ensures) ∙ sym c.is_unknown.ensures ∙ c.if-is_unknown.false)
    c.requires
    (subst (λ t. IfSome t (λ all. c.read.new.room ≡ take (length c.args.room.now) (drop (s.place + c.args.from) all))) c.deref-2.ensures c.in-Ok.ensures)
    known
