use Rattle.ql_said.proofs.Sayings.{saying}
use Rattle.ql_said.proofs.says_something.Goals as goal

pub returns : goal.returns
returns c text = saying text
