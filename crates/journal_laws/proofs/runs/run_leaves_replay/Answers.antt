use Rattle.journal_replay.specs.Replayed.{reading_of}
use Rattle.journal_laws.proofs.Left.{began_replayed, legal_from, leaves_replay}
use Rattle.journal_laws.proofs.runs.run_leaves_replay.Goals as goal

pub returns : goal.returns
returns g c = λ read judged root under old begun now state offset sure h unkept only run legal kept.
    let reading = reading_of g.F.JournalCode.root_codec g.F.JournalCode.record_codec g.M.Restarts.opening g.M.Machine.next g.M.Restarts.adopt in
    let so = began_replayed reading judged root under old begun now state offset run c.one_reading.ensures kept.before kept.began_with in
    leaves_replay reading judged root under old begun now state offset run g.F.EntryCode.codec h sure unkept kept
    (λ n file f. c.front_is_replayed.ensures read kept.before run.replay under offset n h file so (only kept.before run.replay so) (legal_from reading judged root under old begun now state offset run h legal) f)
