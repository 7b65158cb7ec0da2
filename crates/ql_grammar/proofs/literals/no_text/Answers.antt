use Rattle.grammar_rules.proofs.Within.{choice_left, choice_right, inside}
use Rattle.ql_grammar.specs.Grammar as g
use Rattle.ql_grammar.proofs.Exits.{exit, start, last, stopped}
use Rattle.ql_grammar.proofs.Facts.{no_text_choice}
use Rattle.ql_tree.specs.declared.tree.Literal.TheVariants as literals
use Rattle.ql_grammar.proofs.literals.no_text.Goals as goal

pub returns-in_err-number : goal.returns-in_err-number
returns-in_err-number c = exit _ _ _ _ _ c.from_residual.ensures.1
    (stopped (inside g.number literals.Whole (choice_left no_text_choice (start g.no_text c.args.tokens.now) c.if-at_number.ensures)).stuck _ c.in_err-number.ensures)

pub returns-then-at_number : goal.returns-then-at_number
returns-then-at_number c = (inside g.number literals.Whole (choice_left no_text_choice (start g.no_text c.args.tokens.now) c.if-at_number.ensures)).took _ _ c.in_ok-number.ensures

pub returns : goal.returns
returns c = last (choice_right no_text_choice (start g.no_text c.args.tokens.now) c.if-at_number.ensures) _ _ c.flag_or_time.ensures
