use Rattle.grammar_rules.proofs.Within.{optional_there, optional_none, optional_stuck}
use Rattle.ql_grammar.specs.Grammar as g
use Rattle.ql_grammar.proofs.Exits.{exit, halted, start, out_mapped, of_mapped, stopped}
use Rattle.ql_grammar.proofs.Facts.{key_optional}
use Rattle.ql_parse.proofs.order.key.Goals as goal

pub returns-in_err-by : goal.returns-in_err-by
returns-in_err-by c = exit _ _ _ _ _ c.from_residual.ensures.1
    (stopped (optional_stuck key_optional (start g.key c.args.tokens.now)) _ (out_mapped g.column g.ascending c.args.tokens.now _ c.in_err-by.ensures))

pub returns-in_err-descending : goal.returns-in_err-descending
returns-in_err-descending c = exit _ _ _ _ _ c.from_residual-in_err-descending.ensures.1
    (halted (optional_there key_optional (start g.key c.args.tokens.now) (of_mapped g.column g.ascending c.in_ok-by.ensures) c.if-at_direction.ensures).stuck _ c.in_err-descending.ensures)

pub returns-then-at_direction : goal.returns-then-at_direction
returns-then-at_direction c = (optional_there key_optional (start g.key c.args.tokens.now) (of_mapped g.column g.ascending c.in_ok-by.ensures) c.if-at_direction.ensures).took _ _ c.in_ok-descending.ensures

pub returns : goal.returns
returns c = optional_none key_optional (start g.key c.args.tokens.now) (of_mapped g.column g.ascending c.in_ok-by.ensures) c.if-at_direction.ensures
