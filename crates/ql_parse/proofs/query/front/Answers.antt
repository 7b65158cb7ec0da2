use Rattle.std.proofs.Common.{subst}
use Rattle.ql_grammar.specs.Grammar as g
use Rattle.ql_grammar.specs.Reads.{Reads}
use Rattle.ql_parse.proofs.query.front.Goals as goal

pub returns : goal.returns
returns c = subst (λ d. Reads (g.query d) (λ x. (x.0, x.1.now)) c.args.tokens.now c.query.result) c.deepest.ensures c.query.ensures
