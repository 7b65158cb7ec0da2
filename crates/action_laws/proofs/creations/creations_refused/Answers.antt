use Rattle.action_laws.proofs.Folders.{create_folder}
use Rattle.action_laws.proofs.NewDocuments.{create_document}
use Rattle.action_laws.proofs.NewItems.{create_item}
use Rattle.action_laws.proofs.creations.creations_refused.Goals as goal

pub returns : goal.returns
returns c = record {
  create_document = λ r u cost call place e b. create_document r u cost call place e b;
  create_folder = λ r u m cost call b. create_folder r u m cost call b;
  create_item = λ r u cost call place e b. create_item r u cost call place e b;
}
