use Rattle.std.proofs.Common.{◌≡◌, map, take}
use Rattle.json_text.specs.Shown.{listed}
use Rattle.serde_json.specs.Data.{string}
use Rattle.object_json.proofs.access.each_word.Given as goal

abbrev pub invariant-loop-word : goal.invariant-loop-word
invariant-loop-word l = listed l.elements ≡ map string (take l.word-index l.words)
