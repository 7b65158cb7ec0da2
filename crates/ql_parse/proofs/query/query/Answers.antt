use Rattle.grammar_rules.proofs.Within.{optional_there, optional_none, optional_stuck}
use Rattle.ql_grammar.specs.Grammar as g
use Rattle.ql_grammar.proofs.Exits.{exit, start, stopped}
use Rattle.ql_grammar.proofs.Levels.{query_optional}
use Rattle.ql_parse.proofs.query.query.Goals as goal

pub returns-in_err-found : goal.returns-in_err-found
returns-in_err-found c = exit _ _ _ _ _ c.from_residual.ensures.1
    (stopped (optional_stuck (query_optional c.args.depth) (start (g.query c.args.depth) c.args.tokens.now)) _ c.in_err-found.ensures)

pub returns-in_err-keys : goal.returns-in_err-keys
returns-in_err-keys c = exit _ _ _ _ _ c.from_residual-in_err-keys.ensures.1
    (stopped (optional_there (query_optional c.args.depth) (start (g.query c.args.depth) c.args.tokens.now) c.in_ok-found.ensures c.if-at.ensures).stuck _ c.in_err-keys.ensures)

pub returns-then-at : goal.returns-then-at
returns-then-at c = rw c.sorted.ensures ((optional_there (query_optional c.args.depth) (start (g.query c.args.depth) c.args.tokens.now) c.in_ok-found.ensures c.if-at.ensures).took _ _ c.in_ok-keys.ensures)

pub returns : goal.returns
returns c = optional_none (query_optional c.args.depth) (start (g.query c.args.depth) c.args.tokens.now) c.in_ok-found.ensures c.if-at.ensures
