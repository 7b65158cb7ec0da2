use Rattle.grammar_rules.proofs.Within.{second, stuck_first}
use Rattle.ql_grammar.specs.Grammar as g
use Rattle.ql_grammar.proofs.Exits.{exit, halted, start, stopped}
use Rattle.ql_grammar.proofs.Facts.{by_keys_joint, order_joint}
use Rattle.ql_parse.proofs.order.order.Goals as goal

pub returns-in_err-rest : goal.returns-in_err-rest
returns-in_err-rest c = exit _ _ _ _ _ c.from_residual.ensures.1
    (halted (stuck_first order_joint (start g.order c.args.tokens.now)) _ c.in_err-rest.ensures)

pub returns-in_err-rest-2 : goal.returns-in_err-rest-2
returns-in_err-rest-2 c = exit _ _ _ _ _ c.from_residual-in_err-rest-2.ensures.1
    (halted (stuck_first by_keys_joint (second order_joint (start g.order c.args.tokens.now) c.in_ok-rest.ensures)) _ c.in_err-rest-2.ensures)

pub returns-in_err-found : goal.returns-in_err-found
returns-in_err-found c = exit _ _ _ _ _ c.from_residual-in_err-found.ensures.1
    (stopped (second by_keys_joint (second order_joint (start g.order c.args.tokens.now) c.in_ok-rest.ensures) c.in_ok-rest-2.ensures).stuck _ c.in_err-found.ensures)

pub returns : goal.returns
returns c = (second by_keys_joint (second order_joint (start g.order c.args.tokens.now) c.in_ok-rest.ensures) c.in_ok-rest-2.ensures).took _ _ c.in_ok-found.ensures
