use Rattle.std.proofs.Common.{◌≡◌, map}
use Rattle.std.specs.List.{list_any}
use Rattle.cm_map.specs.Parts.{pointee}
use Rattle.cm_types.specs.Changes.{clashes}
use Rattle.type_requests.specs.Keys.{values_of}
use Rattle.cm_type_list.proofs.scan.is_prop_taken.Given as goal

abbrev pub invariant-loop-entry : goal.invariant-loop-entry
invariant-loop-entry l = l.found ≡ list_any (λ t. list_any (clashes l.def) t.properties) (values_of (map pointee l.yielded))
