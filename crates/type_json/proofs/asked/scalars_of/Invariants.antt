use Rattle.std.proofs.Common.{◌≡◌, map, take}
use Rattle.std.specs.Prelude.{filter_map}
use Rattle.serde_json.specs.View.{view}
use Rattle.type_json.specs.Reading.{scalar_of}
use Rattle.type_json.proofs.asked.scalars_of.Given as goal

abbrev pub invariant-loop-value : goal.invariant-loop-value
invariant-loop-value l = l.all ≡ filter_map (scalar_of l.kind) (map view (take l.value-index l.values))
