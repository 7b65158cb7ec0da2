use Rattle.std.proofs.Common.{◌≡◌, ◌+◌, take}
use Rattle.std.specs.List.{flat_map}
use Rattle.call_parts.specs.Weight.{weight_of_texts, bounded}
use Rattle.type_change_parts.specs.Weight.{texts_of_prop}
use Rattle.type_change_parts.proofs.weight.with_props.Given as goal

abbrev pub invariant-loop-prop : goal.invariant-loop-prop
invariant-loop-prop l = l.total ≡ bounded (l.initial.so_far + weight_of_texts (flat_map texts_of_prop (take l.prop-index l.props)))
