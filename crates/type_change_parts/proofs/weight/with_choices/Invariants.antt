use Rattle.std.proofs.Common.{◌≡◌, ◌+◌, take}
use Rattle.std.specs.List.{flat_map}
use Rattle.call_parts.specs.Weight.{weight_of_texts, bounded}
use Rattle.type_change_parts.specs.Weight.{texts_of_choice}
use Rattle.type_change_parts.proofs.weight.with_choices.Given as goal

abbrev pub invariant-loop-choice : goal.invariant-loop-choice
invariant-loop-choice l = l.total ≡ bounded (l.initial.so_far + weight_of_texts (flat_map texts_of_choice (take l.choice-index l.choices)))
