use Rattle.step_laws.proofs.Replays.{well_replay}
use Rattle.step_laws.proofs.well.replay_keeps.Goals as goal

pub returns : goal.returns
returns c = λ r h w. well_replay r h w
