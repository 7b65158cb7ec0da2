use Rattle.grammar_rules.proofs.Within.{second, stuck_first}
use Rattle.ql_grammar.specs.Grammar as g
use Rattle.ql_grammar.proofs.Exits.{exit, halted, start, stopped}
use Rattle.ql_grammar.proofs.Facts.{compared_joint}
use Rattle.ql_grammar.proofs.tests.compared.Goals as goal

pub returns-in_err-by : goal.returns-in_err-by
returns-in_err-by c = exit _ _ _ _ _ c.from_residual.ensures.1
    (halted (stuck_first compared_joint (start g.compared c.args.tokens.now)) _ c.in_err-by.ensures)

pub returns-in_err-constant : goal.returns-in_err-constant
returns-in_err-constant c = exit _ _ _ _ _ c.from_residual-in_err-constant.ensures.1
    (stopped (second compared_joint (start g.compared c.args.tokens.now) c.in_ok-by.ensures).stuck _ c.in_err-constant.ensures)

pub returns : goal.returns
returns c = (second compared_joint (start g.compared c.args.tokens.now) c.in_ok-by.ensures).took _ _ c.in_ok-constant.ensures
