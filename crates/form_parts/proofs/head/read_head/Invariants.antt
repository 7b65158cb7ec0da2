use Rattle.std.proofs.Common.{length}
use Rattle.form_parts.proofs.Fields.{Walk}
use Rattle.form_parts.proofs.head.read_head.Given as goal

abbrev pub invariant-loop-rest : goal.invariant-loop-rest
invariant-loop-rest l = Walk l.text l.fields.items l.rest

abbrev pub decreases-loop-rest : goal.decreases-loop-rest
decreases-loop-rest l = length l.rest
