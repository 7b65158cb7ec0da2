use Rattle.action_laws.proofs.Readings as laws
use Rattle.action_laws.proofs.lists.lists_refused.Goals as goal

pub returns : goal.returns
returns c = record {
  children = λ r u q b. laws.children r u q b;
  parent = λ r u q w b. laws.parent r u q w b;
  parents = λ r u q b. laws.parents r u q b;
  versions = λ r u q b. laws.versions r u q b;
}
