use Rattle.grammar_rules.proofs.Within.{second, optional_there, optional_none, optional_stuck}
use Rattle.ql_grammar.specs.Grammar as g
use Rattle.ql_grammar.proofs.Exits.{exit, start, stopped}
use Rattle.ql_grammar.proofs.Levels.{chosen_optional, filter_joint}
use Rattle.ql_parse.proofs.query.chosen.Goals as goal

pub returns-in_err-found : goal.returns-in_err-found
returns-in_err-found c = exit _ _ _ _ _ c.from_residual.ensures.1
    (stopped (optional_stuck (chosen_optional c.args.depth) (start (g.chosen c.args.depth) c.args.tokens.now)) _ c.in_err-found.ensures)

pub returns-in_err-filter-in-Some : goal.returns-in_err-filter-in-Some
returns-in_err-filter-in-Some c = exit _ _ _ _ _ c.from_residual-in_err-filter-in-Some.ensures.1
    (stopped (second (filter_joint c.args.depth) (optional_there (chosen_optional c.args.depth) (start (g.chosen c.args.depth) c.args.tokens.now) c.in_ok-found.ensures c.in-Some.ensures.0) c.in-Some.ensures.1).stuck _ c.in_err-filter-in-Some.ensures)

pub returns-in_ok-filter-in-Some : goal.returns-in_ok-filter-in-Some
returns-in_ok-filter-in-Some c = rw c.filtered.ensures ((second (filter_joint c.args.depth) (optional_there (chosen_optional c.args.depth) (start (g.chosen c.args.depth) c.args.tokens.now) c.in_ok-found.ensures c.in-Some.ensures.0) c.in-Some.ensures.1).took _ _ c.in_ok-filter-in-Some.ensures)

pub returns-in-None : goal.returns-in-None
returns-in-None c = optional_none (chosen_optional c.args.depth) (start (g.chosen c.args.depth) c.args.tokens.now) c.in_ok-found.ensures c.in-None.ensures
