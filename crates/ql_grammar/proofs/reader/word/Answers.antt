use Rattle.grammar_rules.proofs.Laws.{stuck_at}
use Rattle.ql_grammar.specs.Grammar as g
use Rattle.ql_grammar.proofs.Facts.{keyword_sane}
use Rattle.ql_grammar.proofs.reader.word.Goals as goal

pub returns-in-None : goal.returns-in-None
returns-in-None c = stuck_at (g.keyword c.args.word) (keyword_sane c.args.word) c.args.tokens.now c.in-None.ensures
