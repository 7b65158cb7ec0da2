use Rattle.std.proofs.Common.{◌≡◌}
use Rattle.desk_lock.specs.Steps.{IsSurer}
use Rattle.desk_lock.proofs.shelf.wait_for.Given as goal

abbrev pub invariant-loop : goal.invariant-loop
invariant-loop g l = (l.place.table_id ≡ l.initial.place.table_id) × (l.place.id ≡ l.initial.place.id) × IsSurer l.initial.place.me l.place.me
