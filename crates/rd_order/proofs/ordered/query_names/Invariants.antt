use Rattle.std.proofs.Common.{◌≡◌, map, take}
use Rattle.rd_order.proofs.ordered.query_names.Given as goal

abbrev pub invariant-loop-specification : goal.invariant-loop-specification
invariant-loop-specification l = l.names ≡ map (λ s. s.query_name) (take l.specification-index l.specifications)
