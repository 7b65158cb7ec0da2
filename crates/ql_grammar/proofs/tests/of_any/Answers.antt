use Rattle.grammar_rules.proofs.Within.{second, stuck_first}
use Rattle.ql_grammar.specs.Grammar as g
use Rattle.ql_grammar.proofs.Exits.{exit, halted, start, stopped}
use Rattle.ql_grammar.proofs.Facts.{any_rest_joint, of_any_joint}
use Rattle.ql_grammar.proofs.tests.of_any.Goals as goal

pub returns-in_err-rest : goal.returns-in_err-rest
returns-in_err-rest c = exit _ _ _ _ _ c.from_residual.ensures.1
    (halted (stuck_first of_any_joint (start g.of_any c.args.tokens.now)) _ c.in_err-rest.ensures)

pub returns-in_err-found : goal.returns-in_err-found
returns-in_err-found c = exit _ _ _ _ _ c.from_residual-in_err-found.ensures.1
    (stopped (stuck_first any_rest_joint (second of_any_joint (start g.of_any c.args.tokens.now) c.in_ok-rest.ensures)) _ c.in_err-found.ensures)

pub returns-in_err-among : goal.returns-in_err-among
returns-in_err-among c = exit _ _ _ _ _ c.from_residual-in_err-among.ensures.1
    (stopped (second any_rest_joint (second of_any_joint (start g.of_any c.args.tokens.now) c.in_ok-rest.ensures) c.in_ok-found.ensures).stuck _ c.in_err-among.ensures)

pub returns : goal.returns
returns c = rw c.any_in.ensures ((second any_rest_joint (second of_any_joint (start g.of_any c.args.tokens.now) c.in_ok-rest.ensures) c.in_ok-found.ensures).took _ _ c.in_ok-among.ensures)
