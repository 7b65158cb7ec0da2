use Rattle.ql_lex.proofs.Reading.{reading_end}
use Rattle.ql_lex.proofs.tokens.tokens.Goals as goal

pub returns-in-End : goal.returns-in-End
returns-in-End c = reading_end c.args.limit c.args.text.now c.tokens.all.items c.tokens.at c.tokens.rest.now c.tokens.invariant.reading c.in-End.ensures
