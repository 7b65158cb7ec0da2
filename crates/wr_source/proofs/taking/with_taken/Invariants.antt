use Rattle.std.proofs.Common.{◌≡◌, ◌+◌, map, take}
use Rattle.cm_map.specs.Parts.{pointee}
use Rattle.call_parts.specs.Weight.{bounded}
use Rattle.wr_source.specs.Templates.{taken_cost}
use Rattle.wr_source.proofs.taking.with_taken.Given as goal

abbrev pub invariant-loop-def : goal.invariant-loop-def
invariant-loop-def l = l.total ≡ bounded (l.initial.so_far + taken_cost (map pointee (take l.def-index l.defs)) l.copied l.given)
