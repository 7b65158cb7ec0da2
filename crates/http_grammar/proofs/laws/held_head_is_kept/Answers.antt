use Rattle.http_grammar.proofs.OneFront.{held_kept}
use Rattle.http_grammar.proofs.laws.held_head_is_kept.Goals as goal

pub returns : goal.returns
returns c = held_kept
