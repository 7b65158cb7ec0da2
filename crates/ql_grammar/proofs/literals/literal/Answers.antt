use Rattle.grammar_rules.proofs.Within.{standing_in}
use Rattle.ql_grammar.specs.Grammar as g
use Rattle.ql_grammar.proofs.Exits.{start, last, nothing_begins}
use Rattle.ql_grammar.proofs.Facts.{literal_standing}
use Rattle.ql_grammar.proofs.literals.literal.Goals as goal

pub returns-then-at_literal : goal.returns-then-at_literal
returns-then-at_literal c = last (standing_in literal_standing (start g.literal c.args.tokens.now) c.if-at_literal.ensures) _ _ c.served_literal.ensures

pub returns : goal.returns
returns c = nothing_begins literal_standing c.args.tokens.now _ c.if-at_literal.ensures c.none_begins.ensures
