use Rattle.action_laws.proofs.PolicyCalls as laws
use Rattle.action_laws.proofs.policies.policies_allowed.Goals as goal

pub returns : goal.returns
returns c = record {
  apply_policy = λ r u cost call b. laws.apply_policy_allowed r u cost call b;
  remove_policy = λ r u cost call b. laws.remove_policy_allowed r u cost call b;
}
