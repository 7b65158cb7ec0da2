use Rattle.std.proofs.Common.{◌≡◌, ℕ, ◌∙◌, ap, List}
use Rattle.ql_tree.proofs.Escapes.{plain, cut_plain, escaped_run_at, special_at, cut_special, escaped_next}
use Rattle.ql_tree.proofs.printer.plain_len.Goals as goal

same : (text bytes : List ℕ) (n : ℕ) → bytes ≡ text → n ≡ plain bytes → n ≡ plain text
same text bytes n e f = f ∙ ap plain e

pub returns-clause-cut : goal.returns-clause-cut
returns-clause-cut c = cut_plain c.args.text.now c.utf8.text c.plain_bytes.result (same c.args.text.now c.as_bytes.result.now c.plain_bytes.result c.as_bytes.ensures.value c.plain_bytes.ensures)

pub returns-clause-run : goal.returns-clause-run
returns-clause-run c = escaped_run_at c.args.text.now c.plain_bytes.result (same c.args.text.now c.as_bytes.result.now c.plain_bytes.result c.as_bytes.ensures.value c.plain_bytes.ensures)

pub returns-clause-special : goal.returns-clause-special
returns-clause-special c = special_at c.args.text.now c.utf8.text c.plain_bytes.result (same c.args.text.now c.as_bytes.result.now c.plain_bytes.result c.as_bytes.ensures.value c.plain_bytes.ensures)

pub returns-clause-behind : goal.returns-clause-behind
returns-clause-behind c = cut_special c.args.text.now c.utf8.text c.plain_bytes.result (same c.args.text.now c.as_bytes.result.now c.plain_bytes.result c.as_bytes.ensures.value c.plain_bytes.ensures)

pub returns-clause-next : goal.returns-clause-next
returns-clause-next c = λ h. escaped_next c.args.text.now c.plain_bytes.result (same c.args.text.now c.as_bytes.result.now c.plain_bytes.result c.as_bytes.ensures.value c.plain_bytes.ensures) h c.utf8.text
