use Rattle.http_grammar.proofs.OneFront.{whole_holds}
use Rattle.http_grammar.proofs.laws.whole_request_holds_its_head.Goals as goal

pub returns : goal.returns
returns c = whole_holds
