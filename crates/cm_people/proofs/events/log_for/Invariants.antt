use Rattle.std.proofs.Common.{◌≡◌, map}
use Rattle.cm_map.specs.Parts.{pointee}
use Rattle.cm_people.specs.Adopted.{event_for}
use Rattle.cm_people.proofs.events.log_for.Given as goal

abbrev pub invariant-loop-entry : goal.invariant-loop-entry
invariant-loop-entry l = l.all ≡ map (event_for l.users l.names) (map (λ e. e.1) (map pointee l.yielded))
