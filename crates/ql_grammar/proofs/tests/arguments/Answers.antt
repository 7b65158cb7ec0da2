use Rattle.grammar_rules.proofs.Within.{second, choice_left, choice_right, inside, stuck_first}
use Rattle.ql_grammar.specs.Grammar as g
use Rattle.ql_grammar.proofs.Exits.{exit, halted, start, stopped}
use Rattle.ql_grammar.proofs.Facts.{arguments_choice, comma_text_joint, table_and_text_joint}
use Rattle.ql_grammar.proofs.tests.arguments.Goals as goal

pub returns-in_err-table : goal.returns-in_err-table
returns-in_err-table c = exit _ _ _ _ _ c.from_residual.ensures.1
    (stopped (stuck_first table_and_text_joint (choice_left arguments_choice (start g.arguments c.args.tokens.now) c.if-at_name.ensures)) _ c.in_err-table.ensures)

pub returns-in_err-rest : goal.returns-in_err-rest
returns-in_err-rest c = exit _ _ _ _ _ c.from_residual-in_err-rest.ensures.1
    (halted (stuck_first comma_text_joint (second table_and_text_joint (choice_left arguments_choice (start g.arguments c.args.tokens.now) c.if-at_name.ensures) c.in_ok-table.ensures)) _ c.in_err-rest.ensures)

pub returns-in_err-text : goal.returns-in_err-text
returns-in_err-text c = exit _ _ _ _ _ c.from_residual-in_err-text.ensures.1
    (stopped (second comma_text_joint (second table_and_text_joint (choice_left arguments_choice (start g.arguments c.args.tokens.now) c.if-at_name.ensures) c.in_ok-table.ensures) c.in_ok-rest.ensures).stuck _ c.in_err-text.ensures)

pub returns-then-at_name : goal.returns-then-at_name
returns-then-at_name c = (second comma_text_joint (second table_and_text_joint (choice_left arguments_choice (start g.arguments c.args.tokens.now) c.if-at_name.ensures) c.in_ok-table.ensures) c.in_ok-rest.ensures).took _ _ c.in_ok-text.ensures

pub returns-in_err-text-2 : goal.returns-in_err-text-2
returns-in_err-text-2 c = exit _ _ _ _ _ c.from_residual-in_err-text-2.ensures.1
    (stopped (inside g.quoted g.anywhere (choice_right arguments_choice (start g.arguments c.args.tokens.now) c.if-at_name.ensures)).stuck _ c.in_err-text-2.ensures)

pub returns : goal.returns
returns c = (inside g.quoted g.anywhere (choice_right arguments_choice (start g.arguments c.args.tokens.now) c.if-at_name.ensures)).took _ _ c.in_ok-text-2.ensures
