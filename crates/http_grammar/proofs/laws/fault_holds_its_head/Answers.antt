use Rattle.http_grammar.proofs.OneFront.{fault_holds}
use Rattle.http_grammar.proofs.laws.fault_holds_its_head.Goals as goal

pub returns : goal.returns
returns c = fault_holds
