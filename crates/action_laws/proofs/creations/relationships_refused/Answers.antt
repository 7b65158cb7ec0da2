use Rattle.action_laws.proofs.Relationships as laws
use Rattle.action_laws.proofs.creations.relationships_refused.Goals as goal

pub returns : goal.returns
returns c = record {
  source = λ r u cost call id e b. laws.source_refused r u cost call id e b;
  target = λ r u cost call id e b. laws.target_refused r u cost call id e b;
}
