use Rattle.std.proofs.Common.{false}
use Rattle.grammar_rules.proofs.Within.{choice_left, choice_right, inside}
use Rattle.ql_grammar.specs.Grammar as g
use Rattle.ql_grammar.proofs.Exits.{start, last_found}
use Rattle.ql_grammar.proofs.Facts.{direction_choice}
use Rattle.ql_lex.specs.declared.word.Word.TheVariants as words
use Rattle.ql_parse.proofs.order.direction.Goals as goal

pub returns-in-Some : goal.returns-in-Some
returns-in-Some c = (inside (g.keyword words.Asc) (λ _. false) (choice_left direction_choice (start g.direction c.args.tokens.now) c.in-Some.ensures.0)).took _ _ c.in-Some.ensures.1

pub returns-in-None : goal.returns-in-None
returns-in-None c = last_found (choice_right direction_choice (start g.direction c.args.tokens.now) c.in-None.ensures) _ _ c.meaning.ensures
