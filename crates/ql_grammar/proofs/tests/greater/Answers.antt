use Rattle.grammar_rules.proofs.Within.{choice_left, choice_right, inside}
use Rattle.ql_grammar.specs.Grammar as g
use Rattle.ql_grammar.proofs.Exits.{start, last_found}
use Rattle.ql_grammar.proofs.Facts.{greater_choice}
use Rattle.ql_lex.specs.declared.word.Word.TheVariants as words
use Rattle.ql_tree.specs.declared.tree.Comparison.TheVariants as comparisons
use Rattle.ql_grammar.proofs.tests.greater.Goals as goal

pub returns-in-Some : goal.returns-in-Some
returns-in-Some c = (inside (g.keyword words.Greater) (λ _. comparisons.Greater) (choice_left greater_choice (start g.greater c.args.tokens.now) c.in-Some.ensures.0)).took _ _ c.in-Some.ensures.1

pub returns-in-None : goal.returns-in-None
returns-in-None c = last_found (choice_right greater_choice (start g.greater c.args.tokens.now) c.in-None.ensures) _ _ c.at_most.ensures
