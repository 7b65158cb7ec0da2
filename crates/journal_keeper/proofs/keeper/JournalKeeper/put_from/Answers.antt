use Rattle.std.proofs.Common.{◌++◌, ℕ, List, length, take, OnOk, subst}
use Rattle.disk.specs.Crashes.{LeavesOnly, LeavesSince}
use Rattle.journal_file.specs.Records.{StandsFor}
use Rattle.journal_keeper.specs.Recorded.{payloads}
use Rattle.journal_keeper.specs.Standing.{StandsForFront}
use Rattle.journal_keeper.specs.Stores.{KeeperTold, disk_of}
use Rattle.journal_keeper.proofs.StandLaws.{base_stands, put_leaves, put_stands}
use Rattle.journal_keeper.proofs.Counts.{on_ok}
use Rattle.journal_keeper.proofs.keeper.JournalKeeper.put_from.Goals as goal

pub returns-clause-any_moment : goal.returns-clause-any_moment
returns-clause-any_moment g c t before only =
    let told = g.K.Disk.told in
    let codec = g.F.EntryCode.codec in
    let h = c.args.version.now.journal in
    let from = c.args.from in
    let i = c.self.inside in
    let base = before ++ payloads codec i.offset (take from h) in
    subst (λ (k : KeeperTold g.row.K.Denot). LeavesOnly (StandsForFront codec k.offset before from (take from h)) (told (disk_of k.store)).file
    → LeavesSince (StandsForFront codec k.offset before from h) (told (disk_of k.store)) (told (disk_of c.replace_with.new.dest))) c.self.view_is
    (λ here. put_leaves codec i.offset before from h c.in_ok-payloads.payloads (told (disk_of i.store)) (told (disk_of c.replace_with.new.dest)) c.requires.within here
    c.in_ok-payloads.ensures.have_codes c.in_ok-payloads.ensures.payloads
    (c.replace_with.ensures.0 t base (base_stands codec i.offset before from h (told (disk_of i.store)).file here)))
    only

pub returns-clause-stands : goal.returns-clause-stands
returns-clause-stands g c t before only =
    let told = g.K.Disk.told in
    let codec = g.F.EntryCode.codec in
    let h = c.args.version.now.journal in
    let from = c.args.from in
    let i = c.self.inside in
    let all : List (List ℕ) = c.in_ok-payloads.payloads in
    let base = before ++ payloads codec i.offset (take from h) in
    let late = (told (disk_of c.replace_with.new.dest)).file in
    subst (λ (k : KeeperTold g.row.K.Denot). LeavesOnly (StandsForFront codec k.offset before from (take from h)) (told (disk_of k.store)).file
    → OnOk c.replace_with.result (LeavesOnly (StandsForFront codec k.offset before (length h) h) late)) c.self.view_is
    (λ here. on_ok (LeavesOnly (StandsFor (base ++ all)) late) (LeavesOnly (StandsForFront codec i.offset before (length h) h) late) c.replace_with.result
    (put_stands codec i.offset before from h all (told (disk_of i.store)).file late here c.in_ok-payloads.ensures.have_codes c.in_ok-payloads.ensures.payloads)
    (c.replace_with.ensures.1.0 t base (base_stands codec i.offset before from h (told (disk_of i.store)).file here)))
    only
