use Rattle.ql_grammar.specs.Grammar as g
use Rattle.ql_grammar.proofs.Exits.{took_kind, stuck_kind, stuck_end}
use Rattle.ql_grammar.proofs.Facts.{number_sane}
use Rattle.ql_grammar.proofs.reader.digits_at.Goals as goal

pub returns-in-Some-number_of : goal.returns-in-Some-number_of
returns-in-Some-number_of c = took_kind g.number_in c.args.tokens.now c.in-Some.token.now c.in-Some.rest.now c.in-Some-number_of.text.now c.in-Some.ensures c.in-Some-number_of.ensures

pub returns-in-None-number_of : goal.returns-in-None-number_of
returns-in-None-number_of c = stuck_kind g.number_in c.args.tokens.now number_sane c.in-Some.token.now c.in-Some.rest.now c.in-Some.ensures c.in-None-number_of.ensures

pub returns-in-None : goal.returns-in-None
returns-in-None c = stuck_end g.number_in c.args.tokens.now number_sane c.in-None.ensures
