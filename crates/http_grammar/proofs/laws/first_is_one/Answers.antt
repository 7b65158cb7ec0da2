use Rattle.http_grammar.proofs.OneFront.{first_unique}
use Rattle.http_grammar.proofs.laws.first_is_one.Goals as goal

pub returns : goal.returns
returns c = first_unique
