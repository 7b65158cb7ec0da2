use Rattle.ql_said.proofs.Sayings.{saying}
use Rattle.rd_query.specs.Said.{said}
use Rattle.rd_query.proofs.query.read.Goals as goal

pub returns : goal.returns
unfolding said
returns c = c.parse.ensures.alone (said c.args.statement.now) (saying c.args.statement.now).1
