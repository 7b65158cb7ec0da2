use Rattle.std.proofs.Common.{◌≡◌, map, take}
use Rattle.json_text.specs.Shown.{listed}
use Rattle.json_text.specs.Values.{scalar_data}
use Rattle.json_text.proofs.values.scalars_json.Given as goal

abbrev pub invariant-loop-scalar : goal.invariant-loop-scalar
invariant-loop-scalar l = listed l.elements ≡ map scalar_data (take l.scalar-index l.scalars)
