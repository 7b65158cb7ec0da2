use Rattle.std.proofs.Common.{◌≡◌, map, take}
use Rattle.cm_map.specs.Parts.{pointee}
use Rattle.cm_see.specs.Shown.{shown_slot}
use Rattle.cm_see.proofs.shown.slots.Given as goal

abbrev pub invariant-loop-def : goal.invariant-loop-def
invariant-loop-def l = l.all ≡ map (shown_slot l.state l.user l.x) (map pointee (take l.def-index l.defs))
