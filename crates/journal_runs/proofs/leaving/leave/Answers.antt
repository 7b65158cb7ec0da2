use Rattle.std.proofs.Common.{◌∙◌, sym, ap, subst, Some, None}
use Rattle.desk_lock.specs.declared.board.Store.{Store}
use Rattle.journal_keeper.specs.Stores.{KeeperTold}
use Rattle.journal_runs.specs.Leaves.{EndsWith, KeptIn}
use Rattle.journal_runs.proofs.Ending.{whole_kept, broken_kept, whole_begun, broken_begun, rose_since}
use Rattle.journal_runs.proofs.leaving.leave.Goals as goal

pub returns-in-Whole-clause-kept : goal.returns-in-Whole-clause-kept
returns-in-Whole-clause-kept g c t first entries sure ends =
    let told = g.K.Disk.told in
    let codec = g.F.EntryCode.codec in
    subst (λ (d : g.row.K.Denot). KeptIn codec first.offset (told first.begun) (told d) entries sure None) (sym c.disk_of.ensures.disk)
    (whole_kept g.K.Disk.tells told codec first t c.in-Whole.keeper entries sure
    (subst (λ (s : Store (KeeperTold g.row.K.Denot)). EndsWith g.K.Disk.tells told codec first s entries sure) c.in-Whole.is ends))

pub returns-in-Whole-clause-stands_for : goal.returns-in-Whole-clause-stands_for
returns-in-Whole-clause-stands_for g c first entries sure ends =
    c.disk_of.ensures.stands_for
    ∙ ap g.K.Disk.stands_for (whole_begun g.K.Disk.tells g.K.Disk.told g.F.EntryCode.codec first c.in-Whole.keeper entries sure
    (subst (λ (s : Store (KeeperTold g.row.K.Denot)). EndsWith g.K.Disk.tells g.K.Disk.told g.F.EntryCode.codec first s entries sure) c.in-Whole.is ends))

pub returns-in-Broken-clause-kept : goal.returns-in-Broken-clause-kept
returns-in-Broken-clause-kept g c t first entries sure ends =
    let told = g.K.Disk.told in
    let codec = g.F.EntryCode.codec in
    subst (λ (d : g.row.K.Denot). KeptIn codec first.offset (told first.begun) (told d) entries sure (Some c.lost-lost.result)) (sym c.disk_of-in-Broken.ensures.disk)
    (broken_kept g.K.Disk.tells told codec first t c.in-Broken.keeper entries sure c.lost-lost.result
    (subst (λ (s : Store (KeeperTold g.row.K.Denot)). EndsWith g.K.Disk.tells told codec first s entries sure) c.in-Broken.is ends))

pub returns-in-Broken-clause-failed : goal.returns-in-Broken-clause-failed
returns-in-Broken-clause-failed g c first entries sure ends same =
    rose_since g.K.Disk.told c.in-Broken.keeper first c.disk_of-in-Broken.result c.lost-lost.result c.disk_of-in-Broken.ensures.disk
    (broken_begun g.K.Disk.tells g.K.Disk.told g.F.EntryCode.codec first c.in-Broken.keeper entries sure
    (subst (λ (s : Store (KeeperTold g.row.K.Denot)). EndsWith g.K.Disk.tells g.K.Disk.told g.F.EntryCode.codec first s entries sure) c.in-Broken.is ends))
    c.lost-lost.ensures.disk same

pub returns-in-Broken-clause-stands_for : goal.returns-in-Broken-clause-stands_for
returns-in-Broken-clause-stands_for g c first entries sure ends =
    c.disk_of-in-Broken.ensures.stands_for
    ∙ ap g.K.Disk.stands_for (broken_begun g.K.Disk.tells g.K.Disk.told g.F.EntryCode.codec first c.in-Broken.keeper entries sure
    (subst (λ (s : Store (KeeperTold g.row.K.Denot)). EndsWith g.K.Disk.tells g.K.Disk.told g.F.EntryCode.codec first s entries sure) c.in-Broken.is ends))
