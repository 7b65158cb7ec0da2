use Rattle.ql_lex.proofs.Laws.{lexes_one}
use Rattle.ql_lex.proofs.tokens.tokens_are_one.Goals as goal

pub returns : goal.returns
returns c = lexes_one
