use Rattle.std.proofs.Common.{◌≡◌, map, take}
use Rattle.json_text.specs.Shown.{listed}
use Rattle.call_json.specs.Updated.{updated_data}
use Rattle.call_json.proofs.updated.each_object.Given as goal

abbrev pub invariant-loop-object : goal.invariant-loop-object
invariant-loop-object l = listed l.elements ≡ map updated_data (take l.object-index l.objects)
