use Rattle.std.proofs.Common.{◌≡◌, ◌++◌, map, take}
use Rattle.std.specs.Prelude.{filter}
use Rattle.cm_map.specs.Parts.{pointee}
use Rattle.ql_bind.proofs.table.add_columns.Given as goal

abbrev pub invariant-loop-def : goal.invariant-loop-def
invariant-loop-def l = map pointee l.all.items ≡ map pointee l.initial.all.items ++ filter (λ d. d.queryable) (take l.def-index l.defs)
