use Rattle.grammar_rules.proofs.Within.{optional_there, optional_stuck}
use Rattle.ql_grammar.specs.Grammar as g
use Rattle.ql_grammar.proofs.Exits.{exit, start, out_mapped, of_mapped, stopped}
use Rattle.ql_grammar.proofs.Facts.{served_item_optional}
use Rattle.ql_parse.proofs.select.served_item.Goals as goal

pub returns-in_err-begin : goal.returns-in_err-begin
returns-in_err-begin c = exit _ _ _ _ _ c.from_residual.ensures.1
    (stopped (optional_stuck served_item_optional (start g.served_item c.args.tokens.now)) _ (out_mapped g.plain_name g.bare_item c.args.tokens.now _ c.in_err-begin.ensures))

pub returns-in_err-more : goal.returns-in_err-more
returns-in_err-more c = exit _ _ _ _ _ c.from_residual-in_err-more.ensures.1
    (stopped (optional_there served_item_optional (start g.served_item c.args.tokens.now) (of_mapped g.plain_name g.bare_item c.in_ok-begin.ensures) c.if-at_item_rest.ensures).stuck _ c.in_err-more.ensures)

pub returns-then-at_item_rest : goal.returns-then-at_item_rest
returns-then-at_item_rest c = rw c.item_by.ensures ((optional_there served_item_optional (start g.served_item c.args.tokens.now) (of_mapped g.plain_name g.bare_item c.in_ok-begin.ensures) c.if-at_item_rest.ensures).took _ _ c.in_ok-more.ensures)
