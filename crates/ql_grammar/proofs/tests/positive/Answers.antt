use Rattle.grammar_rules.proofs.Within.{choice_left, choice_right}
use Rattle.ql_grammar.specs.Grammar as g
use Rattle.ql_grammar.proofs.Exits.{exit, halted, start, last}
use Rattle.ql_grammar.proofs.Facts.{positive_choice}
use Rattle.ql_grammar.proofs.tests.positive.Goals as goal

pub returns-then-at_among_or_like : goal.returns-then-at_among_or_like
returns-then-at_among_or_like c = last (choice_left positive_choice (start g.positive c.args.tokens.now) c.if-at_among_or_like.ensures) _ _ c.among_or_like.ensures

pub returns-in_err-test : goal.returns-in_err-test
returns-in_err-test c = exit _ _ _ _ _ c.from_residual.ensures.1
    (halted (choice_right positive_choice (start g.positive c.args.tokens.now) c.if-at_among_or_like.ensures).stuck _ c.in_err-test.ensures)

pub returns : goal.returns
returns c = (choice_right positive_choice (start g.positive c.args.tokens.now) c.if-at_among_or_like.ensures).took _ _ c.in_ok-test.ensures
