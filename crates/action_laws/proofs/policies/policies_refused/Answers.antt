use Rattle.action_laws.proofs.PolicyCalls as laws
use Rattle.action_laws.proofs.policies.policies_refused.Goals as goal

pub returns : goal.returns
returns c = record {
  apply_policy = λ r u cost call w b. laws.apply_policy r u cost call w b;
  remove_policy = λ r u cost call b takes. laws.remove_policy r u cost call b takes;
}
