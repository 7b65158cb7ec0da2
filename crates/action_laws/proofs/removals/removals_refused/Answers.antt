use Rattle.action_laws.proofs.Going as laws
use Rattle.action_laws.proofs.removals.removals_refused.Goals as goal

pub returns : goal.returns
returns c = record {
  delete = λ r u m cost call w b. laws.delete r u m cost call w b;
  cancel_check_out = λ r u cost call b. laws.cancel_check_out r u cost call b;
  delete_tree = λ r u cost call b. laws.delete_tree r u cost call b;
}
