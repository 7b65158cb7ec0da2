use Rattle.grammar_rules.proofs.Within.{choice_right}
use Rattle.ql_grammar.specs.Grammar as g
use Rattle.ql_grammar.proofs.Exits.{start, last}
use Rattle.ql_grammar.proofs.Facts.{behind_dot_choice}
use Rattle.ql_parse.proofs.select.behind_dot.Goals as goal

pub returns-in-None : goal.returns-in-None
returns-in-None c = last (choice_right behind_dot_choice (start g.behind_dot c.args.tokens.now) c.in-None.ensures) _ _ c.dotted.ensures
