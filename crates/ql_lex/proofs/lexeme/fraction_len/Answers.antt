use Rattle.std.proofs.Common.{sym, ◌∙◌, arith}
use Rattle.ql_lex.proofs.Cuts.{cut_first}
use Rattle.ql_lex.proofs.lexeme.fraction_len.Goals as goal

pub after-requires : goal.after-requires
after-requires c = cut_first c.args.text.now 45 c.utf8.text (sym c.byte_at.ensures ∙ c.if-byte_at-eq46.true) (omega arith)
