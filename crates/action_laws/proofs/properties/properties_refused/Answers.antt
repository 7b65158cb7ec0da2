use Rattle.action_laws.proofs.Updates as laws
use Rattle.action_laws.proofs.properties.properties_refused.Goals as goal

pub returns : goal.returns
returns c r u m cost call b = laws.update r u m cost call b
