use Rattle.action_laws.proofs.Series as laws
use Rattle.action_laws.proofs.versioning.versioning_allowed.Goals as goal

pub returns : goal.returns
returns c = record {
  check_out = λ r u cost call b. laws.check_out_allowed r u cost call b;
  check_in = λ r u cost call w b. laws.check_in_allowed r u cost call w b;
}
