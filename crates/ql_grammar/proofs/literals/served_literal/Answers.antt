use Rattle.grammar_rules.proofs.Within.{choice_left, choice_right, inside}
use Rattle.ql_grammar.specs.Grammar as g
use Rattle.ql_grammar.proofs.Exits.{exit, start, last, stopped}
use Rattle.ql_grammar.proofs.Facts.{served_literal_choice}
use Rattle.ql_tree.specs.declared.tree.Literal.TheVariants as literals
use Rattle.ql_grammar.proofs.literals.served_literal.Goals as goal

pub returns-in_err-text : goal.returns-in_err-text
returns-in_err-text c = exit _ _ _ _ _ c.from_residual.ensures.1
    (stopped (inside g.quoted literals.Words (choice_left served_literal_choice (start g.served_literal c.args.tokens.now) c.if-at_quoted.ensures)).stuck _ c.in_err-text.ensures)

pub returns-then-at_quoted : goal.returns-then-at_quoted
returns-then-at_quoted c = (inside g.quoted literals.Words (choice_left served_literal_choice (start g.served_literal c.args.tokens.now) c.if-at_quoted.ensures)).took _ _ c.in_ok-text.ensures

pub returns : goal.returns
returns c = last (choice_right served_literal_choice (start g.served_literal c.args.tokens.now) c.if-at_quoted.ensures) _ _ c.no_text.ensures
