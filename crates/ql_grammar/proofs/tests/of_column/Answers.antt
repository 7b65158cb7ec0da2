use Rattle.grammar_rules.proofs.Within.{second, stuck_first}
use Rattle.ql_grammar.specs.Grammar as g
use Rattle.ql_grammar.proofs.Exits.{exit, start, stopped}
use Rattle.ql_grammar.proofs.Facts.{of_column_joint}
use Rattle.ql_grammar.proofs.tests.of_column.Goals as goal

pub returns-in_err-begin : goal.returns-in_err-begin
returns-in_err-begin c = exit _ _ _ _ _ c.from_residual.ensures.1
    (stopped (stuck_first of_column_joint (start g.of_column c.args.tokens.now)) _ c.in_err-begin.ensures)

pub returns-in_err-more : goal.returns-in_err-more
returns-in_err-more c = exit _ _ _ _ _ c.from_residual-in_err-more.ensures.1
    (stopped (second of_column_joint (start g.of_column c.args.tokens.now) c.in_ok-begin.ensures).stuck _ c.in_err-more.ensures)

pub returns : goal.returns
returns c = rw c.with_column.ensures ((second of_column_joint (start g.of_column c.args.tokens.now) c.in_ok-begin.ensures).took _ _ c.in_ok-more.ensures)
