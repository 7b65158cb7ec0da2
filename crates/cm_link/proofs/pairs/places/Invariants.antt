use Rattle.std.proofs.Common.{◌≡◌, map}
use Rattle.cm_map.specs.Parts.{pointee}
use Rattle.cm_link.proofs.pairs.places.Given as goal

abbrev pub invariant-loop-entry : goal.invariant-loop-entry
invariant-loop-entry l = l.all.items ≡ map (λ e. e.0) (map pointee l.yielded)
