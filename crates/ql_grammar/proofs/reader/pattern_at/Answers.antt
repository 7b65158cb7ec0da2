use Rattle.ql_grammar.specs.Grammar as g
use Rattle.ql_grammar.proofs.Exits.{took_kind, stuck_kind, stuck_end}
use Rattle.ql_grammar.proofs.Facts.{pattern_sane}
use Rattle.ql_grammar.proofs.reader.pattern_at.Goals as goal

pub returns-in-Some-quoted_of : goal.returns-in-Some-quoted_of
returns-in-Some-quoted_of c = took_kind g.quoted_in c.args.tokens.now c.in-Some.token.now c.in-Some.rest.now c.in-Some-quoted_of.text.now c.in-Some.ensures c.in-Some-quoted_of.ensures

pub returns-in-None-quoted_of : goal.returns-in-None-quoted_of
returns-in-None-quoted_of c = stuck_kind g.quoted_in c.args.tokens.now pattern_sane c.in-Some.token.now c.in-Some.rest.now c.in-Some.ensures c.in-None-quoted_of.ensures

pub returns-in-None : goal.returns-in-None
returns-in-None c = stuck_end g.quoted_in c.args.tokens.now pattern_sane c.in-None.ensures
