use Rattle.ql_grammar.proofs.Moments.{took_moment, stuck_moment, stuck_moment_end}
use Rattle.ql_grammar.proofs.reader.moment.Goals as goal

pub returns-in_ok-text-in-Some-quoted_of : goal.returns-in_ok-text-in-Some-quoted_of
returns-in_ok-text-in-Some-quoted_of c = took_moment c.args.tokens.now c.in-Some.token.now c.in-Some.rest.now c.in-Some-quoted_of.text.now c.in_ok-text-in-Some-quoted_of.text c.in-Some.ensures c.in-Some-quoted_of.ensures c.in_ok-text-in-Some-quoted_of.ensures

pub returns-in-None-quoted_of : goal.returns-in-None-quoted_of
returns-in-None-quoted_of c = stuck_moment c.args.tokens.now c.in-Some.token.now c.in-Some.rest.now c.in-Some.ensures c.in-None-quoted_of.ensures

pub returns-in-None : goal.returns-in-None
returns-in-None c = stuck_moment_end c.args.tokens.now c.in-None.ensures
