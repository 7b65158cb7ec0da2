use Rattle.ql_lex.proofs.Signs.{sign_cut}
use Rattle.ql_lex.proofs.lexeme.sign_lexeme.Goals as goal

pub returns-clause-cut : goal.returns-clause-cut
returns-clause-cut c = sign_cut c.args.text.now c.utf8.text c.args.first c.byte_at.result c.sign_at.result c.sign_at.ensures.value c.requires c.byte_at.ensures
