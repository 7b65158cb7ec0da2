use Rattle.std.proofs.Common.{sym, ◌∙◌, arith}
use Rattle.ql_grammar.proofs.Unescapes.{cut_first}
use Rattle.ql_grammar.proofs.plain.push_escape.Goals as goal

pub after-requires : goal.after-requires
after-requires c = cut_first c.args.rest.now 91 c.utf8.rest (sym c.byte_at-b.ensures ∙ c.if-b-eq92.true) (omega arith)
