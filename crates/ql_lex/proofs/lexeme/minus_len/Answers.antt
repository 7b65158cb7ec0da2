use Rattle.std.proofs.Common.{sym, ◌∙◌, arith}
use Rattle.std.proofs.lemmas.Str.{IsCharBoundary-start}
use Rattle.ql_lex.proofs.Cuts.{cut_first}
use Rattle.ql_lex.proofs.lexeme.minus_len.Goals as goal

pub returns-then-byte_at-eq45-clause-cut : goal.returns-then-byte_at-eq45-clause-cut
returns-then-byte_at-eq45-clause-cut c = cut_first c.args.text.now 44 c.utf8.text (sym c.byte_at.ensures ∙ c.if-byte_at-eq45.true) (omega arith)

pub returns-else-byte_at-eq45-clause-cut : goal.returns-else-byte_at-eq45-clause-cut
returns-else-byte_at-eq45-clause-cut c = IsCharBoundary-start c.args.text.now c.utf8.text
