use Rattle.std.proofs.Common.{◌≡◌, map}
use Rattle.cm_map.specs.Parts.{pointee}
use Rattle.cm_state.proofs.standing.numbers.Given as goal

abbrev pub invariant-loop-entry : goal.invariant-loop-entry
invariant-loop-entry l = l.numbers ≡ map (λ e. record { 0 = e.0 }) (map pointee l.yielded)
