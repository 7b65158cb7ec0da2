use Rattle.action_laws.proofs.Moves as laws
use Rattle.action_laws.proofs.filing.filing_refused.Goals as goal

pub returns : goal.returns
returns c = record {
  move_object = λ r u cost call b. laws.move_object r u cost call b;
  add_to_folder = λ r u cost call b. laws.add_to_folder r u cost call b;
  remove_from_folder = λ r u cost call b. laws.remove_from_folder r u cost call b;
}
