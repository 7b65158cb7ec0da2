use Rattle.std.proofs.Common.{◌≡◌, map, take}
use Rattle.cm_map.specs.Parts.{pointee}
use Rattle.state_rows.specs.Tested.{tested_values}
use Rattle.state_rows.proofs.values.tested_values.Given as goal

abbrev pub invariant-loop-def : goal.invariant-loop-def
invariant-loop-def l = l.all ≡ tested_values l.state l.search l.x (map pointee (take l.def-index l.defs))
