use Rattle.http_grammar.proofs.OneFront.{none_held}
use Rattle.http_grammar.proofs.laws.held_head_has_bytes.Goals as goal

pub returns : goal.returns
returns c = none_held
