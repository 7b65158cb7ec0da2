use Rattle.journal_replay.specs.Replayed.{reading_of}
use Rattle.journal_laws.proofs.Single.{one_replay, one_replay_of}
use Rattle.journal_laws.proofs.replays.one_replay.Goals as goal

pub returns-clause-payloads : goal.returns-clause-payloads
returns-clause-payloads g c = one_replay (reading_of g.F.JournalCode.root_codec g.F.JournalCode.record_codec g.M.Restarts.opening g.M.Machine.next g.M.Restarts.adopt)

pub returns-clause-file : goal.returns-clause-file
returns-clause-file g c = one_replay_of (reading_of g.F.JournalCode.root_codec g.F.JournalCode.record_codec g.M.Restarts.opening g.M.Machine.next g.M.Restarts.adopt) c.one_reading.ensures
