use Rattle.grammar_rules.proofs.Within.{choice_left, choice_right}
use Rattle.ql_grammar.specs.Grammar as g
use Rattle.ql_grammar.proofs.Exits.{start, last}
use Rattle.ql_grammar.proofs.Facts.{simple_choice}
use Rattle.ql_grammar.proofs.tests.simple.Goals as goal

pub returns-then-at_plain : goal.returns-then-at_plain
returns-then-at_plain c = last (choice_left simple_choice (start g.simple c.args.tokens.now) c.if-at_plain.ensures) _ _ c.of_column.ensures

pub returns : goal.returns
returns c = last (choice_right simple_choice (start g.simple c.args.tokens.now) c.if-at_plain.ensures) _ _ c.no_column.ensures
