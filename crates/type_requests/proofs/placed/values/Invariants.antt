use Rattle.std.proofs.Common.{◌≡◌, map}
use Rattle.cm_map.specs.Parts.{pointee}
use Rattle.type_requests.specs.Keys.{values_of}
use Rattle.type_requests.proofs.placed.values.Given as goal

abbrev pub invariant-loop-entry : goal.invariant-loop-entry
invariant-loop-entry l = l.all ≡ values_of (map pointee l.yielded)
