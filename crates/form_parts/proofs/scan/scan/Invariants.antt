use Rattle.std.proofs.Common.{length, ◌-◌}
use Rattle.form_parts.proofs.Walks.{Walk}
use Rattle.form_parts.proofs.scan.scan.Given as goal

abbrev pub invariant-loop-end : goal.invariant-loop-end
invariant-loop-end l = Walk l.boundary l.body l.from l.place

abbrev pub decreases-loop-end : goal.decreases-loop-end
decreases-loop-end l = length l.body - l.place
