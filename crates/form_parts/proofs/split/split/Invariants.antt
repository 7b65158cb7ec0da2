use Rattle.std.proofs.Common.{length, ◌-◌}
use Rattle.form_parts.proofs.Joins.{Joined}
use Rattle.form_parts.proofs.split.split.Given as goal

abbrev pub invariant-loop-found : goal.invariant-loop-found
invariant-loop-found l = Joined l.boundary l.body l.spans.items l.from

abbrev pub decreases-loop-found : goal.decreases-loop-found
decreases-loop-found l = length l.body - l.from
