use Rattle.std.proofs.Common.{◌≡◌, ◌+◌, map, take}
use Rattle.std.specs.Prelude.{sum}
use Rattle.cmis_spec.specs.Documents.{without_comment}
use Rattle.call_parts.specs.Weight.{bounded}
use Rattle.wr_rules.specs.Rules.{value_cost}
use Rattle.wr_rules.proofs.copied.with_slots.Given as goal

abbrev pub invariant-loop-slot : goal.invariant-loop-slot
invariant-loop-slot l = l.total ≡ bounded (l.initial.so_far + sum (map (λ s. value_cost s.value) (without_comment (take l.slot-index l.slots))))
