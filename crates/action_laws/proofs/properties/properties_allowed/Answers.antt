use Rattle.action_laws.proofs.Updates as laws
use Rattle.action_laws.proofs.properties.properties_allowed.Goals as goal

pub returns : goal.returns
returns c r u m cost call b = laws.update_allowed r u m cost call b
