use Rattle.grammar_rules.proofs.Within.{choice_right, inside}
use Rattle.ql_grammar.specs.Grammar as g
use Rattle.ql_grammar.proofs.Exits.{exit, start, stopped}
use Rattle.ql_grammar.proofs.Facts.{selection_choice}
use Rattle.ql_tree.specs.declared.tree.Selection.TheVariants as selections
use Rattle.ql_parse.proofs.select.selection.Goals as goal

pub returns-in_err-found-in-None : goal.returns-in_err-found-in-None
returns-in_err-found-in-None c = exit _ _ _ _ _ c.from_residual.ensures.1
    (stopped (inside (g.list_of g.item) selections.Columns (choice_right selection_choice (start g.selection c.args.tokens.now) c.in-None.ensures)).stuck _ c.in_err-found-in-None.ensures)

pub returns-in_ok-found-in-None : goal.returns-in_ok-found-in-None
returns-in_ok-found-in-None c = (inside (g.list_of g.item) selections.Columns (choice_right selection_choice (start g.selection c.args.tokens.now) c.in-None.ensures)).took _ _ c.in_ok-found-in-None.ensures
