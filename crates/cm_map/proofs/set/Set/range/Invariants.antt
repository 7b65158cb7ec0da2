use Rattle.std.proofs.Common.{◌≡◌, map, take}
use Rattle.cm_map.specs.Parts.{pointee}
use Rattle.cm_map.specs.Sets.{key_of}
use Rattle.cm_map.proofs.set.Set.range.Given as goal

abbrev pub invariant-loop-e : goal.invariant-loop-e
invariant-loop-e g l = map pointee l.keys.items ≡ map key_of (map pointee (take l.e-index l.e-items))
