use Rattle.action_laws.proofs.Readings as laws
use Rattle.action_laws.proofs.lists.lists_allowed.Goals as goal

pub returns : goal.returns
returns c = record {
  children = λ r u q b. laws.children_allowed r u q b;
  parent = λ r u q w b. laws.parent_allowed r u q w b;
  parents = λ r u q b. laws.parents_allowed r u q b;
  versions = λ r u q b. laws.versions_allowed r u q b;
}
