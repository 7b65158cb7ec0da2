use Rattle.grammar_rules.proofs.Within.{optional_there, optional_stuck}
use Rattle.ql_grammar.specs.Grammar as g
use Rattle.ql_grammar.proofs.Exits.{exit, start, out_mapped, of_mapped, stopped}
use Rattle.ql_grammar.proofs.Facts.{dotted_optional}
use Rattle.ql_parse.proofs.select.dotted.Goals as goal

pub returns-in_err-column : goal.returns-in_err-column
returns-in_err-column c = exit _ _ _ _ _ c.from_residual.ensures.1
    (stopped (optional_stuck dotted_optional (start g.dotted c.args.tokens.now)) _ (out_mapped g.name g.unaliased c.args.tokens.now _ c.in_err-column.ensures))

pub returns-in_err-other : goal.returns-in_err-other
returns-in_err-other c = exit _ _ _ _ _ c.from_residual-in_err-other.ensures.1
    (stopped (optional_there dotted_optional (start g.dotted c.args.tokens.now) (of_mapped g.name g.unaliased c.in_ok-column.ensures) c.if-at_alias.ensures).stuck _ c.in_err-other.ensures)

pub returns-then-at_alias : goal.returns-then-at_alias
returns-then-at_alias c = (optional_there dotted_optional (start g.dotted c.args.tokens.now) (of_mapped g.name g.unaliased c.in_ok-column.ensures) c.if-at_alias.ensures).took _ _ c.in_ok-other.ensures
