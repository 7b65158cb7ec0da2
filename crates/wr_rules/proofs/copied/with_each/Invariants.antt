use Rattle.std.proofs.Common.{◌≡◌, ◌+◌, map, take}
use Rattle.std.specs.Prelude.{sum}
use Rattle.cmis_spec.specs.Values.{words}
use Rattle.call_parts.specs.Weight.{bounded}
use Rattle.wr_rules.specs.Rules.{value_cost}
use Rattle.wr_rules.proofs.copied.with_each.Given as goal

abbrev pub invariant-loop-text : goal.invariant-loop-text
invariant-loop-text l = l.total ≡ bounded (l.initial.so_far + sum (map (λ t. value_cost (words t)) (take l.text-index l.all)))
