use Rattle.http_grammar.proofs.OneFront.{request_within}
use Rattle.http_grammar.proofs.laws.request_lies_within.Goals as goal

pub returns : goal.returns
returns c = request_within
