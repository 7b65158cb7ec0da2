use Rattle.std.proofs.Common.{◌≡◌, map, take}
use Rattle.cm_map.specs.Parts.{pointee}
use Rattle.show_json.specs.Columns.{id_of}
use Rattle.show_json.specs.Ordered.{in_key_order}
use Rattle.show_json.proofs.column.columns.Given as goal

abbrev pub invariant-loop-def : goal.invariant-loop-def
invariant-loop-def l = l.all.items ≡ in_key_order id_of (map pointee (take l.def-index l.defs))
