use Rattle.std.proofs.Common.{◌++◌, ℕ, List, subst}
use Rattle.disk.specs.Crashes.{LeavesOnly}
use Rattle.journal_file.specs.Records.{StandsFor}
use Rattle.journal_keeper.specs.declared.store.Store.{Store}
use Rattle.journal_keeper.specs.Stores.{disk_of}
use Rattle.journal_keeper.proofs.StandLaws.{seen_left, only_seen}
use Rattle.journal_keeper.proofs.store.put.Goals as goal

pub returns-in-Ok-clause-stands : goal.returns-in-Ok-clause-stands
returns-in-Ok-clause-stands g c t before only =
    let told = g.K.Disk.told in
    let here = subst (λ (s : Store g.row.K.Denot). LeavesOnly (StandsFor before) (told (disk_of s)).file) c.in-Open.is only in
    let stood = seen_left (StandsFor before) (told c.in-Open.journal.disk).file (c.lawful.ensures.synced t) here in
    only_seen (StandsFor (before ++ c.args.batch.payloads)) (told c.in-Ok.journal.disk).file (c.lawful-in-Ok.ensures.synced t)
    (subst (λ (ps : List (List ℕ)). StandsFor (before ++ ps) (told c.in-Ok.journal.disk).file.seen) c.as_slice.ensures (c.in-Ok.ensures.stands t before stood))
