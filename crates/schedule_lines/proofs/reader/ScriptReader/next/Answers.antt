use Rattle.std.proofs.Common.{◌∙◌, sym}
use Rattle.schedule_lines.proofs.Standing.{at_end, filled, stopped_at}
use Rattle.schedule_lines.proofs.reader.ScriptReader.next.Goals as goal

pub returns-then-is_over : goal.returns-then-is_over
returns-then-is_over g c = λ text steps s. at_end text steps _ _ _ _ (sym c.is_over.ensures ∙ c.if-is_over.true) c.take.ensures s

pub returns-in-Ok : goal.returns-in-Ok
returns-in-Ok g c = λ text steps s. filled text steps _ _ _ _ _ _ (sym c.is_over.ensures ∙ c.if-is_over.false) c.in-Ok.field-0 c.in-Ok.ensures c.take-in-Ok.ensures s

pub returns-in-Err : goal.returns-in-Err
returns-in-Err g c = λ text steps s. stopped_at text steps _ _ _ _ _ (sym c.is_over.ensures ∙ c.if-is_over.false) c.in-Err.ensures s
