use Rattle.std.proofs.Common.{◌≡◌, map, take}
use Rattle.cm_map.specs.Parts.{pointee}
use Rattle.ql_bind.specs.Binding.{whole_column}
use Rattle.ql_bind.proofs.select.whole_columns.Given as goal

abbrev pub invariant-loop-def : goal.invariant-loop-def
invariant-loop-def l = l.all ≡ map whole_column (map pointee (take l.def-index l.defs))
