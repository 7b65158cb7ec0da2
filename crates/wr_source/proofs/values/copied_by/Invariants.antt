use Rattle.std.proofs.Common.{◌≡◌, map, take}
use Rattle.cm_map.specs.Parts.{pointee}
use Rattle.wr_source.specs.Templates.{copied_value}
use Rattle.wr_source.proofs.values.copied_by.Given as goal

abbrev pub invariant-loop-def : goal.invariant-loop-def
invariant-loop-def l = l.all ≡ map (λ d. record { id = d.id; value = copied_value l.state l.x d.id }) (map pointee (take l.def-index l.defs))
