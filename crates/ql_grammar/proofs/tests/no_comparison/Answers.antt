use Rattle.grammar_rules.proofs.Within.{second, choice_left, choice_right}
use Rattle.ql_grammar.specs.Grammar as g
use Rattle.ql_grammar.proofs.Exits.{start, last}
use Rattle.ql_grammar.proofs.Facts.{negative_joint, no_comparison_choice}
use Rattle.ql_grammar.proofs.tests.no_comparison.Goals as goal

pub returns-in-Some : goal.returns-in-Some
returns-in-Some c = last (second negative_joint (choice_left no_comparison_choice (start g.no_comparison c.args.tokens.now) c.in-Some.ensures.0) c.in-Some.ensures.1) _ _ c.among_or_like.ensures

pub returns-in-None : goal.returns-in-None
returns-in-None c = last (choice_right no_comparison_choice (start g.no_comparison c.args.tokens.now) c.in-None.ensures) _ _ c.positive.ensures
