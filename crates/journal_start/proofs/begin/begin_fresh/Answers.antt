use Rattle.journal_replay.specs.Replayed.{reading_of}
use Rattle.journal_start.proofs.Beginning.{fresh_ok, fresh_moments}
use Rattle.journal_start.specs.Starting.{disk_begun}
use Rattle.std.proofs.Common.{[]}
use Rattle.journal_start.proofs.begin.begin_fresh.Goals as goal

pub returns-in-Ok-clause-begins : goal.returns-in-Ok-clause-begins
returns-in-Ok-clause-begins g c t judged old stood stands =
    let reading = reading_of g.F.JournalCode.root_codec g.F.JournalCode.record_codec g.M.Restarts.opening g.M.Machine.next g.M.Restarts.adopt in
    fresh_ok reading c.args.root judged g.K.Disk.told c.begin_with.result c.in-Ok.so_far old c.in-Ok.payload.items stood c.in-Ok.ensures.0 c.in-Ok.ensures.1
    c.begin_with.ensures.so_far (c.begin_with.ensures.stands t [] stands)

pub returns-in-Ok-clause-any_moment : goal.returns-in-Ok-clause-any_moment
returns-in-Ok-clause-any_moment g c t old stood stands =
    let reading = reading_of g.F.JournalCode.root_codec g.F.JournalCode.record_codec g.M.Restarts.opening g.M.Machine.next g.M.Restarts.adopt in
    let told = g.K.Disk.told in
    fresh_moments reading c.args.root old c.in-Ok.payload.items (told c.args.journal.disk) (told (disk_begun c.begin_with.result)) stood c.in-Ok.ensures.0 (c.begin_with.ensures.any_moment t [] stands)
