use Rattle.std.proofs.Common.{◌≡◌, map, take}
use Rattle.serde_json.specs.Data.{string}
use Rattle.json_text.specs.Shown.{listed}
use Rattle.type_show.proofs.show.texts_json.Given as goal

abbrev pub invariant-loop-text : goal.invariant-loop-text
invariant-loop-text l = listed l.elements ≡ map string (take l.text-index l.texts)
