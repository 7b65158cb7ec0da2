use Rattle.std.proofs.Common.{◌≡◌, ◌++◌, map, take}
use Rattle.cm_map.specs.Parts.{pointee}
use Rattle.cm_type_list.proofs.types.add_props.Given as goal

abbrev pub invariant-loop-def : goal.invariant-loop-def
invariant-loop-def l = map pointee l.all.items ≡ map pointee l.initial.all.items ++ take l.def-index l.defs
