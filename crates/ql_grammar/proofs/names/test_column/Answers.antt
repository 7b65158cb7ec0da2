use Rattle.grammar_rules.proofs.Within.{second, optional_there, optional_stuck}
use Rattle.ql_grammar.specs.Grammar as g
use Rattle.ql_grammar.proofs.Exits.{exit, start, of_mapped, out_mapped, stopped}
use Rattle.ql_grammar.proofs.Facts.{test_column_optional, dot_name_joint}
use Rattle.ql_grammar.proofs.names.test_column.Goals as goal

pub returns-in_err-begin : goal.returns-in_err-begin
returns-in_err-begin c = exit _ _ _ _ _ c.from_residual.ensures.1
    (stopped (optional_stuck test_column_optional (start g.test_column c.args.tokens.now)) _ (out_mapped g.plain_name g.bare c.args.tokens.now _ c.in_err-begin.ensures))

pub returns-in_err-column-in-Some : goal.returns-in_err-column-in-Some
returns-in_err-column-in-Some c = exit _ _ _ _ _ c.from_residual-in_err-column-in-Some.ensures.1
    (stopped (second dot_name_joint (optional_there test_column_optional (start g.test_column c.args.tokens.now) (of_mapped g.plain_name g.bare c.in_ok-begin.ensures) c.in-Some.ensures.0) c.in-Some.ensures.1).stuck _ c.in_err-column-in-Some.ensures)

pub returns-in_ok-column-in-Some : goal.returns-in_ok-column-in-Some
returns-in_ok-column-in-Some c = (second dot_name_joint (optional_there test_column_optional (start g.test_column c.args.tokens.now) (of_mapped g.plain_name g.bare c.in_ok-begin.ensures) c.in-Some.ensures.0) c.in-Some.ensures.1).took _ _ c.in_ok-column-in-Some.ensures
