use Rattle.std.proofs.Common.{length}
use Rattle.grammar_rules.specs.Rules.{mapped}
use Rattle.grammar_rules.proofs.Within.{Along}
use Rattle.ql_grammar.specs.Grammar as g
use Rattle.ql_parse.proofs.select.items.Given as goal

abbrev pub invariant-commas : goal.invariant-commas
invariant-commas l = Along (mapped g.item g.alone) (g.comma_then g.item) g.append l.tokens l.found l.rest

abbrev pub decreases-commas : goal.decreases-commas
decreases-commas l = length l.rest
