use Rattle.grammar_rules.proofs.Within.{standing_in}
use Rattle.ql_grammar.specs.Grammar as g
use Rattle.ql_grammar.proofs.Exits.{start, last, nothing_begins}
use Rattle.ql_grammar.proofs.Facts.{item_standing}
use Rattle.ql_parse.proofs.select.item.Goals as goal

pub returns-then-at_plain : goal.returns-then-at_plain
returns-then-at_plain c = last (standing_in item_standing (start g.item c.args.tokens.now) c.if-at_plain.ensures) _ _ c.served_item.ensures

pub returns : goal.returns
returns c = nothing_begins item_standing c.args.tokens.now _ c.if-at_plain.ensures c.none_begins.ensures
