use Rattle.grammar_rules.proofs.Within.{second, choice_left, choice_right}
use Rattle.ql_grammar.specs.Grammar as g
use Rattle.ql_grammar.proofs.Exits.{start, last_found}
use Rattle.ql_grammar.proofs.Facts.{not_null_joint, nullness_choice}
use Rattle.ql_grammar.proofs.tests.nullness.Goals as goal

pub returns-in-Some : goal.returns-in-Some
returns-in-Some c = last_found (second not_null_joint (choice_left nullness_choice (start g.nullness c.args.tokens.now) c.in-Some.ensures.0) c.in-Some.ensures.1) _ _ c.meaning.ensures

pub returns-in-None : goal.returns-in-None
returns-in-None c = last_found (choice_right nullness_choice (start g.nullness c.args.tokens.now) c.in-None.ensures) _ _ c.meaning-in-None.ensures
