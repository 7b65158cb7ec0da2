use Rattle.grammar_rules.proofs.Within.{choice_left, choice_right}
use Rattle.ql_grammar.specs.Grammar as g
use Rattle.ql_grammar.proofs.Exits.{start, last}
use Rattle.ql_grammar.proofs.Facts.{test_rest_choice}
use Rattle.ql_grammar.proofs.tests.test_rest.Goals as goal

pub returns-then-at_comparison : goal.returns-then-at_comparison
returns-then-at_comparison c = last (choice_left test_rest_choice (start g.test_rest c.args.tokens.now) c.if-at_comparison.ensures) _ _ c.compared.ensures

pub returns : goal.returns
returns c = last (choice_right test_rest_choice (start g.test_rest c.args.tokens.now) c.if-at_comparison.ensures) _ _ c.no_comparison.ensures
