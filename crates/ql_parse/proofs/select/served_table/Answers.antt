use Rattle.grammar_rules.proofs.Within.{optional_there, optional_stuck}
use Rattle.ql_grammar.specs.Grammar as g
use Rattle.ql_grammar.proofs.Exits.{exit, start, out_mapped, of_mapped, stopped}
use Rattle.ql_grammar.proofs.Facts.{served_table_optional}
use Rattle.ql_parse.proofs.select.served_table.Goals as goal

pub returns-in_err-name : goal.returns-in_err-name
returns-in_err-name c = exit _ _ _ _ _ c.from_residual.ensures.1
    (stopped (optional_stuck served_table_optional (start g.served_table c.args.tokens.now)) _ (out_mapped g.plain_name g.bare_table c.args.tokens.now _ c.in_err-name.ensures))

pub returns-in_err-other : goal.returns-in_err-other
returns-in_err-other c = exit _ _ _ _ _ c.from_residual-in_err-other.ensures.1
    (stopped (optional_there served_table_optional (start g.served_table c.args.tokens.now) (of_mapped g.plain_name g.bare_table c.in_ok-name.ensures) c.if-at_alias.ensures).stuck _ c.in_err-other.ensures)

pub returns-then-at_alias : goal.returns-then-at_alias
returns-then-at_alias c = (optional_there served_table_optional (start g.served_table c.args.tokens.now) (of_mapped g.plain_name g.bare_table c.in_ok-name.ensures) c.if-at_alias.ensures).took _ _ c.in_ok-other.ensures
