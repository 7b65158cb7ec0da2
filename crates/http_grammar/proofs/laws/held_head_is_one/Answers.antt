use Rattle.http_grammar.proofs.OneFront.{held_unique}
use Rattle.http_grammar.proofs.laws.held_head_is_one.Goals as goal

pub returns : goal.returns
returns c = held_unique
