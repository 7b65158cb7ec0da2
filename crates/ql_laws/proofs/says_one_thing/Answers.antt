use Rattle.ql_laws.proofs.Said.{says_one}
use Rattle.ql_laws.proofs.says_one_thing.Goals as goal

pub returns : goal.returns
returns c = λ text a b v w. says_one text a b v w
