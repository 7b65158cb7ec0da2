use Rattle.grammar_rules.proofs.Within.{second, choice_left, choice_right}
use Rattle.ql_grammar.specs.Grammar as g
use Rattle.ql_grammar.proofs.Exits.{start, last}
use Rattle.ql_grammar.proofs.Facts.{alias_choice, as_name_joint}
use Rattle.ql_grammar.proofs.names.alias.Goals as goal

pub returns-in-Some : goal.returns-in-Some
returns-in-Some c = last (second as_name_joint (choice_left alias_choice (start g.alias c.args.tokens.now) c.in-Some.ensures.0) c.in-Some.ensures.1) _ _ c.name.ensures

pub returns-in-None : goal.returns-in-None
returns-in-None c = last (choice_right alias_choice (start g.alias c.args.tokens.now) c.in-None.ensures) _ _ c.name-in-None.ensures
