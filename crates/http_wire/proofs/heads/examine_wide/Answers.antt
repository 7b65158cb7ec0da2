use Rattle.std.proofs.Common.{◌∙◌, ap, length, subst, Err, ℕ}
use Rattle.httparse.specs.Spans.{RequestExceeds}
use Rattle.http_grammar.proofs.Heads.{open_partial, never_too_many}
use Rattle.http_wire.proofs.heads.examine_wide.Goals as goal

pub returns-in-Ok-Partial : goal.returns-in-Ok-Partial
returns-in-Ok-Partial c =
    let f = rw c.in-Ok-Partial.field-0-is at c.in-Ok-Partial.ensures in
    open_partial c.args.part.now c.requires.judged f.partial f.unfinished

pub returns-in-Err : goal.returns-in-Err
returns-in-Err c = record {
  judged = c.requires.judged;
  never = c.in-Err.ensures.invalid (λ s. never_too_many c.args.part.now c.requires.short
      (subst (λ (n : ℕ). RequestExceeds n c.args.part.now) (ap length c.deref_mut.ensures.value ∙ c.requires.room) (c.in-Err.ensures.too_many (ap Err s))));
}
