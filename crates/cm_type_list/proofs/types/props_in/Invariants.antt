use Rattle.std.proofs.Common.{◌≡◌, map, take}
use Rattle.std.specs.List.{flat_map}
use Rattle.cm_map.specs.Parts.{pointee}
use Rattle.cm_type_list.proofs.types.props_in.Given as goal

abbrev pub invariant-loop-def : goal.invariant-loop-def
invariant-loop-def l = map pointee l.all.items ≡ flat_map (λ t. t.properties) (map pointee (take l.def-index l.types))
