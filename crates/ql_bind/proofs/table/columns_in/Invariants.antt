use Rattle.std.proofs.Common.{◌≡◌, map, take}
use Rattle.std.specs.Prelude.{filter}
use Rattle.std.specs.List.{flat_map}
use Rattle.cm_map.specs.Parts.{pointee}
use Rattle.ql_bind.proofs.table.columns_in.Given as goal

abbrev pub invariant-loop-def : goal.invariant-loop-def
invariant-loop-def l = map pointee l.all.items ≡ filter (λ d. d.queryable) (flat_map (λ t. t.properties) (map pointee (take l.def-index l.types)))
