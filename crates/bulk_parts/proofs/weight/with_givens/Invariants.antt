use Rattle.std.proofs.Common.{◌≡◌, ◌+◌, take}
use Rattle.std.specs.List.{flat_map}
use Rattle.call_parts.specs.Weight.{weight_of_texts, bounded, texts_of_given}
use Rattle.bulk_parts.proofs.weight.with_givens.Given as goal

abbrev pub invariant-loop-given : goal.invariant-loop-given
invariant-loop-given l = l.total ≡ bounded (l.initial.so_far + weight_of_texts (flat_map texts_of_given (take l.given-index l.givens)))
