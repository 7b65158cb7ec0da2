use Rattle.ql_lex.specs.Lexes as spec
use Rattle.ql_lex.proofs.Cuts.{cut_found, name_ascii}
use Rattle.ql_lex.proofs.lexeme.name_len.Goals as goal

pub returns-clause-cut : goal.returns-clause-cut
returns-clause-cut c = cut_found spec.is_name_byte name_ascii c.args.text.now c.as_bytes.result.now c.name_bytes.result c.utf8.text c.as_bytes.ensures.value c.name_bytes.ensures
