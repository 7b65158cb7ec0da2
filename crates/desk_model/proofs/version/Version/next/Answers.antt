use Rattle.std.proofs.Common.{◌∙◌}
use Rattle.desk_model.proofs.Replays.{kept-more}
use Rattle.desk_model.proofs.version.Version.next.Goals as goal

pub invariant_of-version : goal.invariant_of-version
invariant_of-version g c = c.journal.invariant

pub invariant_of-version-2 : goal.invariant_of-version-2
invariant_of-version-2 g c =
    let p = rw c.deref.ensures at c.in_ok-state.ensures in
    let is = c.journal.view_is ∙ c.in_ok-journal.ensures in
    rw (c.in_ok-new.ensures.ok, c.in_ok-try_clone.ensures)
    (kept-more g.M.Machine.next _ _ _ _ _ _ c.args.entry c.self.invariant p is)
