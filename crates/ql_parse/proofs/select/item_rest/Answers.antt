use Rattle.grammar_rules.proofs.Within.{second, choice_left, choice_right, inside}
use Rattle.ql_grammar.specs.Grammar as g
use Rattle.ql_grammar.proofs.Exits.{exit, start, last, stopped}
use Rattle.ql_grammar.proofs.Facts.{dot_rest_joint, item_rest_choice}
use Rattle.ql_grammar.specs.declared.parts.ItemRest.TheVariants as item_rests
use Rattle.ql_parse.proofs.select.item_rest.Goals as goal

pub returns-in-Some : goal.returns-in-Some
returns-in-Some c = last (second dot_rest_joint (choice_left item_rest_choice (start g.item_rest c.args.tokens.now) c.in-Some.ensures.0) c.in-Some.ensures.1) _ _ c.behind_dot.ensures

pub returns-in_err-other-in-None : goal.returns-in_err-other-in-None
returns-in_err-other-in-None c = exit _ _ _ _ _ c.from_residual.ensures.1
    (stopped (inside g.alias item_rests.Alias (choice_right item_rest_choice (start g.item_rest c.args.tokens.now) c.in-None.ensures)).stuck _ c.in_err-other-in-None.ensures)
