use Rattle.action_laws.proofs.Folders.{create_folder_allowed}
use Rattle.action_laws.proofs.NewDocuments.{create_document_allowed}
use Rattle.action_laws.proofs.NewItems.{create_item_allowed}
use Rattle.action_laws.proofs.creations.creations_allowed.Goals as goal

pub returns : goal.returns
returns c = record {
  create_document = λ r u cost call place e b. create_document_allowed r u cost call place e b;
  create_folder = λ r u m cost call b. create_folder_allowed r u m cost call b;
  create_item = λ r u cost call place e b. create_item_allowed r u cost call place e b;
}
