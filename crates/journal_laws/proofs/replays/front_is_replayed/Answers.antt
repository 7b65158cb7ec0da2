use Rattle.journal_replay.specs.Replayed.{reading_of}
use Rattle.journal_laws.proofs.Behind.{stands_behind}
use Rattle.journal_laws.proofs.replays.front_is_replayed.Goals as goal

pub returns : goal.returns
returns g c = λ read before first under offset n h file so only legal f.
    let reading = reading_of g.F.JournalCode.root_codec g.F.JournalCode.record_codec g.M.Restarts.opening g.M.Machine.next g.M.Restarts.adopt in
    stands_behind reading g.F.EntryCode.codec read c.shifted_is_legal.ensures.legal c.shifted_is_legal.ensures.replay under offset first only before n h file so legal f
