use Rattle.action_laws.proofs.Read as laws
use Rattle.action_laws.proofs.streams.streams_refused.Goals as goal

pub returns : goal.returns
returns c r u q e b = laws.content r u q e b
