use Rattle.std.proofs.Common.{arith, inr}
use Rattle.ql_lex.proofs.Cuts.{cut_first, cut_closing, cut_closed}
use Rattle.ql_lex.proofs.lexeme.quoted_lexeme.Goals as goal

pub after-bytes-requires : goal.after-bytes-requires
after-bytes-requires c = cut_first c.args.text.now 38 c.utf8.text c.requires.quote (omega arith)

pub front-requires : goal.front-requires
front-requires c = cut_closing c.after-bytes.result.now c.in-Some.n (rw c.as_bytes.ensures.value at c.in-Some.ensures.value)

pub returns-in-Some-clause-cut : goal.returns-in-Some-clause-cut
returns-in-Some-clause-cut c =
    inr (cut_closed c.args.text.now c.after-bytes.result.now c.in-Some.n c.utf8.text c.requires.quote c.after-bytes.ensures c.after-bytes.utf8 (rw c.as_bytes.ensures.value at c.in-Some.ensures.value))
