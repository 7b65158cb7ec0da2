use Rattle.std.proofs.Common.{◌≡◌, map}
use Rattle.cm_map.specs.Parts.{pointee}
use Rattle.type_requests.specs.Keys.{values_of}
use Rattle.cm_type_list.proofs.scan.all_of.Given as goal

abbrev pub invariant-loop-entry : goal.invariant-loop-entry
invariant-loop-entry l = map pointee l.all.items ≡ values_of (map pointee l.yielded)
