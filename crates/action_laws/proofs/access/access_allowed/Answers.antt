use Rattle.action_laws.proofs.Controls as laws
use Rattle.action_laws.proofs.access.access_allowed.Goals as goal

pub returns : goal.returns
returns c r u cost call b = laws.apply_acl_allowed r u cost call b
