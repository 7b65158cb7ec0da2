use Rattle.grammar_rules.proofs.Within.{second, choice_left, choice_right, stuck_first}
use Rattle.ql_grammar.specs.Grammar as g
use Rattle.ql_grammar.proofs.Exits.{exit, halted, start, stopped}
use Rattle.ql_grammar.proofs.Facts.{in_folder_joint, in_tree_joint, of_place_choice}
use Rattle.ql_grammar.proofs.tests.of_place.Goals as goal

pub returns-in_err-placed-in-Some : goal.returns-in_err-placed-in-Some
returns-in_err-placed-in-Some c = exit _ _ _ _ _ c.from_residual.ensures.1
    (stopped (second in_folder_joint (choice_left of_place_choice (start g.of_place c.args.tokens.now) c.in-Some.ensures.0) c.in-Some.ensures.1).stuck _ c.in_err-placed-in-Some.ensures)

pub returns-in_ok-placed-in-Some : goal.returns-in_ok-placed-in-Some
returns-in_ok-placed-in-Some c = rw c.in_folder.ensures ((second in_folder_joint (choice_left of_place_choice (start g.of_place c.args.tokens.now) c.in-Some.ensures.0) c.in-Some.ensures.1).took _ _ c.in_ok-placed-in-Some.ensures)

pub returns-in_err-rest-in-None : goal.returns-in_err-rest-in-None
returns-in_err-rest-in-None c = exit _ _ _ _ _ c.from_residual-in_err-rest-in-None.ensures.1
    (halted (stuck_first in_tree_joint (choice_right of_place_choice (start g.of_place c.args.tokens.now) c.in-None.ensures)) _ c.in_err-rest-in-None.ensures)

pub returns-in_err-placed-in-None : goal.returns-in_err-placed-in-None
returns-in_err-placed-in-None c = exit _ _ _ _ _ c.from_residual-in_err-placed-in-None.ensures.1
    (stopped (second in_tree_joint (choice_right of_place_choice (start g.of_place c.args.tokens.now) c.in-None.ensures) c.in_ok-rest-in-None.ensures).stuck _ c.in_err-placed-in-None.ensures)

pub returns-in_ok-placed-in-None : goal.returns-in_ok-placed-in-None
returns-in_ok-placed-in-None c = rw c.in_tree.ensures ((second in_tree_joint (choice_right of_place_choice (start g.of_place c.args.tokens.now) c.in-None.ensures) c.in_ok-rest-in-None.ensures).took _ _ c.in_ok-placed-in-None.ensures)
