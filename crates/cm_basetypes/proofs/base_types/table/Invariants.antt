use Rattle.std.proofs.Common.{◌≡◌, map, take}
use Rattle.cm_types.specs.BaseTypes.{base_row}
use Rattle.cm_basetypes.proofs.base_types.table.Given as goal

abbrev pub invariant-loop-base : goal.invariant-loop-base
invariant-loop-base l = l.all ≡ map base_row (take l.base-index l.bases)
