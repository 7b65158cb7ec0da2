use Rattle.std.proofs.Common.{◌≡◌, map, take}
use Rattle.std.specs.Prelude.{filter_map}
use Rattle.serde_json.specs.View.{view}
use Rattle.type_json.specs.Reading.{choice_of}
use Rattle.type_json.proofs.asked.choices_of.Given as goal

abbrev pub invariant-loop-value : goal.invariant-loop-value
invariant-loop-value l = l.all ≡ filter_map (choice_of l.kind) (map view (take l.value-index l.values))
