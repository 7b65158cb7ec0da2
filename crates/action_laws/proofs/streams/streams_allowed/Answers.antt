use Rattle.action_laws.proofs.Read as laws
use Rattle.action_laws.proofs.streams.streams_allowed.Goals as goal

pub returns : goal.returns
returns c r u q b = laws.content_allowed r u q b
