use Rattle.std.proofs.Common.{◌≡◌, ◌+◌, take}
use Rattle.std.specs.List.{flat_map}
use Rattle.call_parts.specs.Weight.{weight_of_texts, bounded, texts_of_ace}
use Rattle.create_parts.proofs.weight.with_aces.Given as goal

abbrev pub invariant-loop-ace : goal.invariant-loop-ace
invariant-loop-ace l = l.total ≡ bounded (l.initial.so_far + weight_of_texts (flat_map texts_of_ace (take l.ace-index l.aces)))
