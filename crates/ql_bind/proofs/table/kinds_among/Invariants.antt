use Rattle.std.proofs.Common.{◌≡◌, map, take}
use Rattle.std.specs.Prelude.{filter}
use Rattle.cm_map.specs.Parts.{pointee}
use Rattle.cm_types.specs.Types.{chain}
use Rattle.ql_bind.specs.Tables.{counts_up}
use Rattle.ql_bind.proofs.table.kinds_among.Given as goal

abbrev pub invariant-loop-def : goal.invariant-loop-def
invariant-loop-def l = l.all ≡ map (λ t. t.id) (filter (λ t. counts_up l.table (chain l.types t.id)) (map pointee (take l.def-index l.among)))
