use Rattle.action_laws.proofs.Below as laws
use Rattle.action_laws.proofs.trees.trees_refused.Goals as goal

pub returns : goal.returns
returns c = record {
  descendants = λ r u q b. laws.descendants r u q b;
  folder_tree = λ r u q b. laws.folder_tree r u q b;
}
