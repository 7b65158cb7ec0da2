use Rattle.action_laws.proofs.Controls as laws
use Rattle.action_laws.proofs.access.access_refused.Goals as goal

pub returns : goal.returns
returns c r u cost call w b = laws.apply_acl r u cost call w b
