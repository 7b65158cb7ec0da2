use Rattle.desk_model.proofs.Replays.{legal-append, replay-append}
use Rattle.journal_replay.proofs.unnumbered.legal_lists_join.Goals as goal

pub returns-clause-legal : goal.returns-clause-legal
returns-clause-legal g c = legal-append g.M.Machine.next

pub returns-clause-replay : goal.returns-clause-replay
returns-clause-replay g c = replay-append g.M.Machine.next
