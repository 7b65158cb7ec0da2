use Rattle.http_wire.proofs.HeadReading.{bad_answer, fault_answer}
use Rattle.http_wire.proofs.head_reader.at_fault.Goals as goal

pub returns-in-Ok-Open : goal.returns-in-Ok-Open
returns-in-Ok-Open c = fault_answer c.args.bytes.now c.examine_head.new.spans.items (rw c.in-Ok-Open.field-0-is at c.in-Ok-Open.ensures)

pub returns-in-Ok-Bad : goal.returns-in-Ok-Bad
returns-in-Ok-Bad c = bad_answer ⊥ c.args.bytes.now c.in-Ok-Bad.fault (rw c.in-Ok-Bad.field-0-is at c.in-Ok-Bad.ensures)
