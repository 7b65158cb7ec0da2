use Rattle.http_grammar.proofs.OneFront.{waits_holds}
use Rattle.http_grammar.proofs.laws.waiting_head_is_held.Goals as goal

pub returns : goal.returns
returns c = waits_holds
