use Rattle.std.proofs.Common.{◌≡◌, ℕ, ◌∙◌, ap, List}
use Rattle.ql_grammar.proofs.Unescapes.{run, cut_run, unescaped_run_at, cut_backslash, unescaped_next}
use Rattle.ql_grammar.proofs.plain.run_len.Goals as goal

same : (text bytes : List ℕ) (n : ℕ) → bytes ≡ text → n ≡ run bytes → n ≡ run text
same text bytes n e f = f ∙ ap run e

pub returns-clause-cut : goal.returns-clause-cut
returns-clause-cut c = cut_run c.args.text.now c.utf8.text c.run_bytes.result (same c.args.text.now c.as_bytes.result.now c.run_bytes.result c.as_bytes.ensures.value c.run_bytes.ensures)

pub returns-clause-run : goal.returns-clause-run
returns-clause-run c = unescaped_run_at c.args.text.now c.run_bytes.result (same c.args.text.now c.as_bytes.result.now c.run_bytes.result c.as_bytes.ensures.value c.run_bytes.ensures)

pub returns-clause-behind : goal.returns-clause-behind
returns-clause-behind c = cut_backslash c.args.text.now c.utf8.text c.run_bytes.result (same c.args.text.now c.as_bytes.result.now c.run_bytes.result c.as_bytes.ensures.value c.run_bytes.ensures)

pub returns-clause-next : goal.returns-clause-next
returns-clause-next c = λ h. unescaped_next c.args.text.now c.run_bytes.result (same c.args.text.now c.as_bytes.result.now c.run_bytes.result c.as_bytes.ensures.value c.run_bytes.ensures) h c.utf8.text
