use Rattle.std.proofs.Common.{◌≡◌, map}
use Rattle.std.specs.List.{list_any}
use Rattle.cm_map.specs.Parts.{pointee}
use Rattle.cm_types.specs.Types.{is_child_type}
use Rattle.type_requests.specs.Keys.{values_of}
use Rattle.cm_type_list.proofs.scan.has_child.Given as goal

abbrev pub invariant-loop-entry : goal.invariant-loop-entry
invariant-loop-entry l = l.found ≡ list_any (is_child_type l.id) (values_of (map pointee l.yielded))
