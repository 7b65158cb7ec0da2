use Rattle.std.proofs.Common.{◌≡◌, [], map, drop}
use Rattle.cm_map.specs.Parts.{pointee}
use Rattle.ql_bind.specs.Binding.{each_onto}
use Rattle.rd_order.specs.Ordered.{sort_key}
use Rattle.rd_order.proofs.key.keys_among.Given as goal

abbrev pub invariant-loop-specification : goal.invariant-loop-specification
invariant-loop-specification l = each_onto (sort_key (map pointee l.types)) [] l.specifications ≡ each_onto (sort_key (map pointee l.types)) l.all (drop l.specification-index l.specifications)
