use Rattle.ql_laws.proofs.Again.{spelled_again, spelled_alone}
use Rattle.ql_laws.proofs.printed_again.Goals as goal

pub returns-clause-again : goal.returns-clause-again
returns-clause-again c = λ text q w. spelled_again text q w

pub returns-clause-alone : goal.returns-clause-alone
returns-clause-alone c = λ text q r w v. spelled_alone text q w r v
