use Rattle.action_laws.proofs.Relationships as laws
use Rattle.action_laws.proofs.creations.relationships_allowed.Goals as goal

pub returns : goal.returns
returns c = record {
  source = λ r u cost call id e b. laws.source_allowed r u cost call id e b;
  target = λ r u cost call id e b. laws.target_allowed r u cost call id e b;
}
