use Rattle.action_laws.proofs.Streamed as laws
use Rattle.action_laws.proofs.contents.contents_allowed.Goals as goal

pub returns : goal.returns
returns c = record {
  set_content = λ r u m cost call b. laws.set_content_allowed r u m cost call b;
  delete_content = λ r u m cost call b. laws.delete_content_allowed r u m cost call b;
}
