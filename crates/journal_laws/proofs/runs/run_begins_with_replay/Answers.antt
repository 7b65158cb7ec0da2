use Rattle.std.proofs.Common.{refl}
use Rattle.journal_replay.specs.Replayed.{reading_of}
use Rattle.journal_laws.proofs.Begun.{begins_same, begins_changed}
use Rattle.journal_laws.proofs.runs.run_begins_with_replay.Goals as goal

pub returns-clause-same : goal.returns-clause-same
returns-clause-same g c judged root under old begun state offset r stands run same =
    let reading = reading_of g.F.JournalCode.root_codec g.F.JournalCode.record_codec g.M.Restarts.opening g.M.Machine.next g.M.Restarts.adopt in
    begins_same reading c.one_reading.ensures judged root old.file.seen r stands under old begun refl state offset run same

pub returns-clause-changed : goal.returns-clause-changed
returns-clause-changed g c judged root under old begun state offset r stands run other =
    let reading = reading_of g.F.JournalCode.root_codec g.F.JournalCode.record_codec g.M.Restarts.opening g.M.Machine.next g.M.Restarts.adopt in
    begins_changed reading c.one_reading.ensures judged root old.file.seen r stands under old begun refl state offset run other
