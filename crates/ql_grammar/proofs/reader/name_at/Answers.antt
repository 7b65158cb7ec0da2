use Rattle.ql_grammar.specs.Grammar as g
use Rattle.ql_grammar.proofs.Exits.{took_kind, stuck_kind, stuck_end}
use Rattle.ql_grammar.proofs.Facts.{name_sane}
use Rattle.ql_grammar.proofs.reader.name_at.Goals as goal

pub returns-in-Some-name_of : goal.returns-in-Some-name_of
returns-in-Some-name_of c = took_kind g.name_in c.args.tokens.now c.in-Some.token.now c.in-Some.rest.now c.in-Some-name_of.text.now c.in-Some.ensures c.in-Some-name_of.ensures

pub returns-in-None-name_of : goal.returns-in-None-name_of
returns-in-None-name_of c = stuck_kind g.name_in c.args.tokens.now name_sane c.in-Some.token.now c.in-Some.rest.now c.in-Some.ensures c.in-None-name_of.ensures

pub returns-in-None : goal.returns-in-None
returns-in-None c = stuck_end g.name_in c.args.tokens.now name_sane c.in-None.ensures
