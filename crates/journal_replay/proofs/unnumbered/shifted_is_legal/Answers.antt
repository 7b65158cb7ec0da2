use Rattle.journal_replay.proofs.Shifted.{legal_shifted, replay_shifted}
use Rattle.journal_replay.proofs.unnumbered.shifted_is_legal.Goals as goal

pub returns-clause-legal : goal.returns-clause-legal
returns-clause-legal g c = legal_shifted g.M.Machine.next g.met.M.Unnumbered.same_step

pub returns-clause-replay : goal.returns-clause-replay
returns-clause-replay g c = replay_shifted g.M.Machine.next g.met.M.Unnumbered.same_step
