use Rattle.std.proofs.Common.{◌≡◌, ◌+◌, map, take}
use Rattle.std.specs.Prelude.{sum}
use Rattle.call_parts.specs.Weight.{bounded}
use Rattle.wr_rules.specs.Rules.{scalar_cost}
use Rattle.wr_source.proofs.taking.with_scalars.Given as goal

abbrev pub invariant-loop-scalar : goal.invariant-loop-scalar
invariant-loop-scalar l = l.total ≡ bounded (l.initial.so_far + sum (map scalar_cost (take l.scalar-index l.scalars)))
