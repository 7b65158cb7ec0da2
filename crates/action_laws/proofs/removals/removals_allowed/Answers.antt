use Rattle.action_laws.proofs.Going as laws
use Rattle.action_laws.proofs.removals.removals_allowed.Goals as goal

pub returns : goal.returns
returns c = record {
  delete = λ r u m cost call w b. laws.delete_allowed r u m cost call w b;
  cancel_check_out = λ r u cost call w b. laws.cancel_allowed r u cost call w b;
  delete_tree = λ r u cost call b. laws.delete_tree_allowed r u cost call b;
}
