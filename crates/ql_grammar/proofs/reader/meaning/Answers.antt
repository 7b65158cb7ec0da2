use Rattle.grammar_rules.proofs.Laws.{stuck_at}
use Rattle.ql_grammar.specs.Grammar as g
use Rattle.ql_grammar.proofs.Exits.{of_mapped}
use Rattle.ql_grammar.proofs.Facts.{meaning_sane}
use Rattle.ql_grammar.proofs.reader.meaning.Goals as goal

pub returns-in-Some : goal.returns-in-Some
returns-in-Some over c = of_mapped (g.keyword c.args.word) (λ _. c.args.value) c.in-Some.ensures.1

pub returns-in-None : goal.returns-in-None
returns-in-None over c = stuck_at (g.meaning c.args.word c.args.value) (meaning_sane c.args.word c.args.value) c.args.tokens.now c.in-None.ensures
