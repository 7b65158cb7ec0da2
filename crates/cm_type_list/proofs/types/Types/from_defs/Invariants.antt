use Rattle.std.proofs.Common.{◌≡◌, take}
use Rattle.cm_types.specs.Changes.{sorted_types}
use Rattle.cm_type_list.proofs.types.Types.from_defs.Given as goal

abbrev pub invariant-loop-def : goal.invariant-loop-def
invariant-loop-def l = l.types ≡ sorted_types (take l.def-index l.defs-2)
