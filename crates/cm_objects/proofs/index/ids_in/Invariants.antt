use Rattle.std.proofs.Common.{◌≡◌, map, take}
use Rattle.cm_map.specs.Parts.{pointee}
use Rattle.cm_objects.proofs.index.ids_in.Given as goal

abbrev pub invariant-loop-pair : goal.invariant-loop-pair
invariant-loop-pair l = l.ids.items ≡ map (λ p. p.1) (map pointee (take l.pair-index l.pairs))
