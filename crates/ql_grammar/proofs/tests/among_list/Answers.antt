use Rattle.std.proofs.Common.{true, false}
use Rattle.grammar_rules.proofs.Within.{second, choice_left, choice_right, inside}
use Rattle.ql_grammar.specs.Grammar as g
use Rattle.ql_grammar.proofs.Exits.{exit, start, stopped}
use Rattle.ql_grammar.proofs.Facts.{among_list_choice, not_among_joint}
use Rattle.ql_grammar.proofs.tests.among_list.Goals as goal

pub returns-in_err-literals-in-Some : goal.returns-in_err-literals-in-Some
returns-in_err-literals-in-Some c = exit _ _ _ _ _ c.from_residual.ensures.1
    (stopped (inside g.in_list (g.among true) (second not_among_joint (choice_left among_list_choice (start g.among_list c.args.tokens.now) c.in-Some.ensures.0) c.in-Some.ensures.1)).stuck _ c.in_err-literals-in-Some.ensures)

pub returns-in_ok-literals-in-Some : goal.returns-in_ok-literals-in-Some
returns-in_ok-literals-in-Some c = (inside g.in_list (g.among true) (second not_among_joint (choice_left among_list_choice (start g.among_list c.args.tokens.now) c.in-Some.ensures.0) c.in-Some.ensures.1)).took _ _ c.in_ok-literals-in-Some.ensures

pub returns-in_err-literals-in-None : goal.returns-in_err-literals-in-None
returns-in_err-literals-in-None c = exit _ _ _ _ _ c.from_residual-in_err-literals-in-None.ensures.1
    (stopped (inside g.in_list (g.among false) (choice_right among_list_choice (start g.among_list c.args.tokens.now) c.in-None.ensures)).stuck _ c.in_err-literals-in-None.ensures)

pub returns-in_ok-literals-in-None : goal.returns-in_ok-literals-in-None
returns-in_ok-literals-in-None c = (inside g.in_list (g.among false) (choice_right among_list_choice (start g.among_list c.args.tokens.now) c.in-None.ensures)).took _ _ c.in_ok-literals-in-None.ensures
