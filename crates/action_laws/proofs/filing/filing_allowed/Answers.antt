use Rattle.action_laws.proofs.Moves as laws
use Rattle.action_laws.proofs.filing.filing_allowed.Goals as goal

pub returns : goal.returns
returns c = record {
  move_object = λ r u cost call b kind. laws.move_allowed r u cost call b kind;
  add_to_folder = λ r u cost call b kind. laws.add_allowed r u cost call b kind;
  remove_from_folder = λ r u cost call b kind. laws.remove_allowed r u cost call b kind;
}
