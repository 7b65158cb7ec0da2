use Rattle.ql_lex.specs.Lexes as spec
use Rattle.ql_lex.proofs.Cuts.{cut_found, blank_ascii}
use Rattle.ql_lex.proofs.lexeme.blanks.Goals as goal

pub returns-clause-cut : goal.returns-clause-cut
returns-clause-cut c = cut_found spec.is_blank blank_ascii c.args.text.now c.as_bytes.result.now c.blank_bytes.result c.utf8.text c.as_bytes.ensures.value c.blank_bytes.ensures
