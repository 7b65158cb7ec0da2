use Rattle.grammar_rules.proofs.Within.{choice_left, choice_right}
use Rattle.ql_grammar.specs.Grammar as g
use Rattle.ql_grammar.proofs.Exits.{start, last}
use Rattle.ql_grammar.proofs.Facts.{no_column_choice}
use Rattle.ql_grammar.proofs.tests.no_column.Goals as goal

pub returns-then-at_literal : goal.returns-then-at_literal
returns-then-at_literal c = last (choice_left no_column_choice (start g.no_column c.args.tokens.now) c.if-at_literal.ensures) _ _ c.of_literal.ensures

pub returns : goal.returns
returns c = last (choice_right no_column_choice (start g.no_column c.args.tokens.now) c.if-at_literal.ensures) _ _ c.any_or_place.ensures
