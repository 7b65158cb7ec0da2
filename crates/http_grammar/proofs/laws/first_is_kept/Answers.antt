use Rattle.http_grammar.proofs.OneFront.{first_kept}
use Rattle.http_grammar.proofs.laws.first_is_kept.Goals as goal

pub returns : goal.returns
returns c = first_kept
