use Rattle.grammar_rules.proofs.Within.{choice_left, choice_right}
use Rattle.ql_grammar.specs.Grammar as g
use Rattle.ql_grammar.proofs.Exits.{start, last}
use Rattle.ql_grammar.proofs.Facts.{any_or_place_choice}
use Rattle.ql_grammar.proofs.tests.any_or_place.Goals as goal

pub returns-then-at : goal.returns-then-at
returns-then-at c = last (choice_left any_or_place_choice (start g.any_or_place c.args.tokens.now) c.if-at.ensures) _ _ c.of_any.ensures

pub returns : goal.returns
returns c = last (choice_right any_or_place_choice (start g.any_or_place c.args.tokens.now) c.if-at.ensures) _ _ c.of_place.ensures
