use Rattle.action_laws.proofs.Below as laws
use Rattle.action_laws.proofs.trees.trees_allowed.Goals as goal

pub returns : goal.returns
returns c = record {
  descendants = λ r u q b. laws.descendants_allowed r u q b;
  folder_tree = λ r u q b. laws.folder_tree_allowed r u q b;
}
