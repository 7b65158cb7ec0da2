use Rattle.grammar_rules.proofs.Within.{choice_left, choice_right, inside}
use Rattle.ql_grammar.specs.Grammar as g
use Rattle.ql_grammar.proofs.Exits.{exit, start, stopped}
use Rattle.ql_grammar.proofs.Facts.{among_or_like_choice}
use Rattle.ql_grammar.specs.declared.parts.TestRest.TheVariants as test_rests
use Rattle.ql_grammar.proofs.tests.among_or_like.Goals as goal

pub returns-in_err-found : goal.returns-in_err-found
returns-in_err-found c = exit _ _ _ _ _ c.from_residual.ensures.1
    (stopped (inside g.in_list (test_rests.In c.args.negated) (choice_left (among_or_like_choice c.args.negated) (start (g.among_or_like c.args.negated) c.args.tokens.now) c.if-at.ensures)).stuck _ c.in_err-found.ensures)

pub returns-then-at : goal.returns-then-at
returns-then-at c = (inside g.in_list (test_rests.In c.args.negated) (choice_left (among_or_like_choice c.args.negated) (start (g.among_or_like c.args.negated) c.args.tokens.now) c.if-at.ensures)).took _ _ c.in_ok-found.ensures

pub returns-in_err-text : goal.returns-in_err-text
returns-in_err-text c = exit _ _ _ _ _ c.from_residual-in_err-text.ensures.1
    (stopped (inside g.like (test_rests.Like c.args.negated) (choice_right (among_or_like_choice c.args.negated) (start (g.among_or_like c.args.negated) c.args.tokens.now) c.if-at.ensures)).stuck _ c.in_err-text.ensures)

pub returns : goal.returns
returns c = (inside g.like (test_rests.Like c.args.negated) (choice_right (among_or_like_choice c.args.negated) (start (g.among_or_like c.args.negated) c.args.tokens.now) c.if-at.ensures)).took _ _ c.in_ok-text.ensures
