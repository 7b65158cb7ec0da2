use Rattle.std.proofs.Common.{true}
use Rattle.grammar_rules.proofs.Within.{choice_left, choice_right, inside}
use Rattle.ql_grammar.specs.Grammar as g
use Rattle.ql_grammar.proofs.Exits.{start, last}
use Rattle.ql_grammar.proofs.Facts.{flag_or_time_choice}
use Rattle.ql_lex.specs.declared.word.Word.TheVariants as words
use Rattle.ql_tree.specs.declared.tree.Literal.TheVariants as literals
use Rattle.ql_grammar.proofs.literals.flag_or_time.Goals as goal

pub returns-in-Some : goal.returns-in-Some
returns-in-Some c = (inside (g.keyword words.True) (λ _. literals.Flag true) (choice_left flag_or_time_choice (start g.flag_or_time c.args.tokens.now) c.in-Some.ensures.0)).took _ _ c.in-Some.ensures.1

pub returns-in-None : goal.returns-in-None
returns-in-None c = last (choice_right flag_or_time_choice (start g.flag_or_time c.args.tokens.now) c.in-None.ensures) _ _ c.false_or_time.ensures
