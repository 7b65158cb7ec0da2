use Rattle.grammar_rules.proofs.Within.{choice_left, choice_right, inside}
use Rattle.ql_grammar.specs.Grammar as g
use Rattle.ql_grammar.proofs.Exits.{start, last_found}
use Rattle.ql_grammar.proofs.Facts.{unequal_choice}
use Rattle.ql_lex.specs.declared.word.Word.TheVariants as words
use Rattle.ql_tree.specs.declared.tree.Comparison.TheVariants as comparisons
use Rattle.ql_grammar.proofs.tests.unequal.Goals as goal

pub returns-in-Some : goal.returns-in-Some
returns-in-Some c = (inside (g.keyword words.NotEqual) (λ _. comparisons.NotEqual) (choice_left unequal_choice (start g.unequal c.args.tokens.now) c.in-Some.ensures.0)).took _ _ c.in-Some.ensures.1

pub returns-in-None : goal.returns-in-None
returns-in-None c = last_found (choice_right unequal_choice (start g.unequal c.args.tokens.now) c.in-None.ensures) _ _ c.less.ensures
