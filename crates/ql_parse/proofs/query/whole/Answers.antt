use Rattle.ql_grammar.specs.Grammar as g
use Rattle.ql_parse.specs.Texts.{deepest}
use Rattle.ql_parse.proofs.Wholes.{whole_exit, whole_took, whole_left}
use Rattle.ql_grammar.proofs.Levels.{query_sane}
use Rattle.ql_parse.proofs.query.whole.Goals as goal

pub returns-in_err-found : goal.returns-in_err-found
returns-in_err-found c = whole_exit (g.query deepest) (query_sane deepest) c.args.tokens.now _ _ c.from_residual.ensures.1 c.in_err-found.ensures

pub returns-in-None : goal.returns-in-None
returns-in-None c = whole_took (g.query deepest) (query_sane deepest) c.args.tokens.now _ _ c.in-None.ensures c.in_ok-found.ensures

pub returns-in-Some : goal.returns-in-Some
returns-in-Some c = whole_left (g.query deepest) (query_sane deepest) c.args.tokens.now _ _ c.in-Some.ensures c.in_ok-found.ensures
