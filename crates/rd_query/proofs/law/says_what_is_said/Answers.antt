use Rattle.ql_said.proofs.Sayings.{saying}
use Rattle.rd_query.specs.Said.{said}
use Rattle.rd_query.proofs.law.says_what_is_said.Goals as goal

pub returns : goal.returns
unfolding said
returns c text = (saying text).1
