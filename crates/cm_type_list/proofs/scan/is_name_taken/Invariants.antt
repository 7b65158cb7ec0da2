use Rattle.std.proofs.Common.{◌≡◌, ◌||◌, map}
use Rattle.std.specs.Prelude.{bytes_eq}
use Rattle.std.specs.List.{list_any}
use Rattle.cm_map.specs.Parts.{pointee}
use Rattle.type_requests.specs.Keys.{values_of}
use Rattle.cm_type_list.proofs.scan.is_name_taken.Given as goal

abbrev pub invariant-loop-entry : goal.invariant-loop-entry
invariant-loop-entry l = l.found ≡ list_any (λ t. bytes_eq t.id l.id || bytes_eq t.query_name l.query_name) (values_of (map pointee l.yielded))
