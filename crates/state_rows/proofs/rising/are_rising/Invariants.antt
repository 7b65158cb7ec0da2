use Rattle.std.proofs.Common.{◌<◌, All, take}
use Rattle.cm_map.specs.Keyed.{Rises}
use Rattle.state_rows.proofs.rising.are_rising.Given as goal

abbrev pub invariant-loop-number : goal.invariant-loop-number
invariant-loop-number l = Rises (λ n. n.0) (take l.number-index l.numbers) × All (λ n. n.0 < l.least) (take l.number-index l.numbers)
