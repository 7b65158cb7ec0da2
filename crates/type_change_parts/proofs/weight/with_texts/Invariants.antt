use Rattle.std.proofs.Common.{◌≡◌, ◌+◌, take}
use Rattle.call_parts.specs.Weight.{weight_of_texts, bounded}
use Rattle.type_change_parts.proofs.weight.with_texts.Given as goal

abbrev pub invariant-loop-text : goal.invariant-loop-text
invariant-loop-text l = l.total ≡ bounded (l.initial.so_far + weight_of_texts (take l.text-index l.texts))
