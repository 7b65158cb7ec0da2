use Rattle.std.proofs.Common.{◌≡◌, ◌≤◌, ℕ, List, length, sym, subst, ap, ◌∙◌}
use Rattle.disk.specs.Disks.{FileTold, overwritten}
use Rattle.crash_disk.proofs.Tearing.{torn_by}
use Rattle.crash_disk.proofs.disk_file.DiskFile.written.Goals as goal

pub returns-clause-torn : goal.returns-clause-torn
returns-clause-torn c =
    let within : c.args.at ≤ length c.self.inside.seen.items = subst (λ (f : FileTold). c.args.at ≤ length f.seen) (sym c.self.view_is) c.requires.within in
    let seen : c.in_ok-seen.seen.items ≡ overwritten c.self.inside.seen.items c.args.at c.args.piece.now = c.in_ok-seen.ensures ∙ ap (λ (l : List ℕ). overwritten l c.args.at c.args.piece.now) c.deref.ensures.value in
    rw (← c.self.view_is) (torn_by c.self.inside.seen.items c.in_ok-seen.seen.items c.args.piece.now c.args.at c.args.len within c.requires.piece seen)
