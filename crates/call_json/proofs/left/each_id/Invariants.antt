use Rattle.std.proofs.Common.{◌≡◌, map, take}
use Rattle.json_text.specs.Shown.{listed}
use Rattle.call_json.specs.Left.{id_data}
use Rattle.call_json.proofs.left.each_id.Given as goal

abbrev pub invariant-loop-n : goal.invariant-loop-n
invariant-loop-n l = listed l.elements ≡ map id_data (take l.n-index l.ids)
