use Rattle.ql_grammar.specs.Grammar as g
use Rattle.ql_grammar.proofs.Exits.{took_kind, stuck_kind, stuck_end}
use Rattle.ql_grammar.proofs.Facts.{plain_name_sane}
use Rattle.ql_grammar.proofs.reader.plain_at.Goals as goal

pub returns-in-Some-plain_of : goal.returns-in-Some-plain_of
returns-in-Some-plain_of c = took_kind g.plain_in c.args.tokens.now c.in-Some.token.now c.in-Some.rest.now c.in-Some-plain_of.text.now c.in-Some.ensures c.in-Some-plain_of.ensures

pub returns-in-None-plain_of : goal.returns-in-None-plain_of
returns-in-None-plain_of c = stuck_kind g.plain_in c.args.tokens.now plain_name_sane c.in-Some.token.now c.in-Some.rest.now c.in-Some.ensures c.in-None-plain_of.ensures

pub returns-in-None : goal.returns-in-None
returns-in-None c = stuck_end g.plain_in c.args.tokens.now plain_name_sane c.in-None.ensures
