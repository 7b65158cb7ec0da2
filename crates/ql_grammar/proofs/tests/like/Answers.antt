use Rattle.grammar_rules.proofs.Within.{second, stuck_first}
use Rattle.ql_grammar.specs.Grammar as g
use Rattle.ql_grammar.proofs.Exits.{exit, halted, start, last}
use Rattle.ql_grammar.proofs.Facts.{like_joint}
use Rattle.ql_grammar.proofs.tests.like.Goals as goal

pub returns-in_err-rest : goal.returns-in_err-rest
returns-in_err-rest c = exit _ _ _ _ _ c.from_residual.ensures.1
    (halted (stuck_first like_joint (start g.like c.args.tokens.now)) _ c.in_err-rest.ensures)

pub returns : goal.returns
returns c = last (second like_joint (start g.like c.args.tokens.now) c.in_ok-rest.ensures) _ _ c.pattern.ensures
