use Rattle.journal_replay.specs.Replayed.{reading_of}
use Rattle.journal_start.proofs.Beginning.{changed_ok, changed_moments}
use Rattle.journal_start.specs.Starting.{disk_begun}
use Rattle.journal_start.proofs.begin.begin_changed.Goals as goal

pub returns-in-Ok-clause-begins : goal.returns-in-Ok-clause-begins
returns-in-Ok-clause-begins g c t judged old before people stood stands good =
    let reading = reading_of g.F.JournalCode.root_codec g.F.JournalCode.record_codec g.M.Restarts.opening g.M.Machine.next g.M.Restarts.adopt in
    changed_ok reading c.args.root judged g.K.Disk.told c.begin_with.result c.args.so_far c.in-Ok.so_far before old c.in-Ok.payload.items stood good people c.in-Ok.ensures.0 c.in-Ok.ensures.1
    c.begin_with.ensures.so_far (c.begin_with.ensures.stands t before stands)

pub returns-in-Ok-clause-any_moment : goal.returns-in-Ok-clause-any_moment
returns-in-Ok-clause-any_moment g c t old before stood stands good =
    let reading = reading_of g.F.JournalCode.root_codec g.F.JournalCode.record_codec g.M.Restarts.opening g.M.Machine.next g.M.Restarts.adopt in
    let told = g.K.Disk.told in
    changed_moments reading c.args.root old c.in-Ok.payload.items before c.args.so_far (told c.args.journal.disk) (told (disk_begun c.begin_with.result)) stood good c.in-Ok.ensures.0
    (c.begin_with.ensures.any_moment t before stands)
