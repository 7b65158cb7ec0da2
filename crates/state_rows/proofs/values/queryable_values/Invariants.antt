use Rattle.std.proofs.Common.{◌≡◌, map, take}
use Rattle.cm_map.specs.Parts.{pointee}
use Rattle.row_store.specs.Rows.{queryable_values}
use Rattle.state_rows.proofs.values.queryable_values.Given as goal

abbrev pub invariant-loop-def : goal.invariant-loop-def
invariant-loop-def l = l.all ≡ queryable_values l.state l.user l.x (map pointee (take l.def-index l.defs))
