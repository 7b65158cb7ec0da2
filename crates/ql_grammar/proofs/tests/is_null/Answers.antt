use Rattle.grammar_rules.proofs.Within.{second, inside, stuck_first}
use Rattle.ql_grammar.specs.Grammar as g
use Rattle.ql_grammar.proofs.Exits.{exit_found, halted, start}
use Rattle.ql_grammar.proofs.Facts.{is_null_joint}
use Rattle.ql_grammar.specs.declared.parts.TestRest.TheVariants as test_rests
use Rattle.ql_grammar.proofs.tests.is_null.Goals as goal

pub returns-in_err-rest : goal.returns-in_err-rest
returns-in_err-rest c = exit_found _ _ _ _ _ c.from_residual.ensures.1
    (halted (stuck_first is_null_joint (start g.is_null c.args.tokens.now)) _ c.in_err-rest.ensures)

pub returns-in_err-negated : goal.returns-in_err-negated
returns-in_err-negated c = exit_found _ _ _ _ _ c.from_residual-in_err-negated.ensures.1
    (halted (inside g.nullness test_rests.Null (second is_null_joint (start g.is_null c.args.tokens.now) c.in_ok-rest.ensures)).stuck _ c.in_err-negated.ensures)

pub returns : goal.returns
returns c = (inside g.nullness test_rests.Null (second is_null_joint (start g.is_null c.args.tokens.now) c.in_ok-rest.ensures)).took _ _ c.in_ok-negated.ensures
