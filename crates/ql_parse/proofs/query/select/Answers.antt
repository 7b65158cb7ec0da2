use Rattle.grammar_rules.proofs.Within.{second, stuck_first}
use Rattle.ql_grammar.specs.Grammar as g
use Rattle.ql_grammar.proofs.Exits.{exit, halted, start, stopped}
use Rattle.ql_grammar.proofs.Facts.{columns_of_joint, select_joint, source_joint}
use Rattle.ql_parse.proofs.query.select.Goals as goal

pub returns-in_err-rest : goal.returns-in_err-rest
returns-in_err-rest c = exit _ _ _ _ _ c.from_residual.ensures.1
    (halted (stuck_first select_joint (start g.select c.args.tokens.now)) _ c.in_err-rest.ensures)

pub returns-in_err-list : goal.returns-in_err-list
returns-in_err-list c = exit _ _ _ _ _ c.from_residual-in_err-list.ensures.1
    (stopped (stuck_first columns_of_joint (second select_joint (start g.select c.args.tokens.now) c.in_ok-rest.ensures)) _ c.in_err-list.ensures)

pub returns-in_err-rest-2 : goal.returns-in_err-rest-2
returns-in_err-rest-2 c = exit _ _ _ _ _ c.from_residual-in_err-rest-2.ensures.1
    (halted (stuck_first source_joint (second columns_of_joint (second select_joint (start g.select c.args.tokens.now) c.in_ok-rest.ensures) c.in_ok-list.ensures)) _ c.in_err-rest-2.ensures)

pub returns-in_err-named : goal.returns-in_err-named
returns-in_err-named c = exit _ _ _ _ _ c.from_residual-in_err-named.ensures.1
    (stopped (second source_joint (second columns_of_joint (second select_joint (start g.select c.args.tokens.now) c.in_ok-rest.ensures) c.in_ok-list.ensures) c.in_ok-rest-2.ensures).stuck _ c.in_err-named.ensures)

pub returns : goal.returns
returns c = rw c.all_rows.ensures ((second source_joint (second columns_of_joint (second select_joint (start g.select c.args.tokens.now) c.in_ok-rest.ensures) c.in_ok-list.ensures) c.in_ok-rest-2.ensures).took _ _ c.in_ok-named.ensures)
