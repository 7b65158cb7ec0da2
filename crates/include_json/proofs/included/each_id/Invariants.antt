use Rattle.std.proofs.Common.{◌≡◌, map, take}
use Rattle.json_text.specs.Shown.{listed}
use Rattle.serde_json.specs.Data.{string}
use Rattle.include_json.proofs.included.each_id.Given as goal

abbrev pub invariant-loop-id : goal.invariant-loop-id
invariant-loop-id l = listed l.elements ≡ map string (take l.id-index l.ids)
