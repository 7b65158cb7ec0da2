use Rattle.std.proofs.Common.{◌≡◌, map, take}
use Rattle.serde_json.specs.Data.{string}
use Rattle.json_text.specs.Shown.{listed}
use Rattle.type_replies.proofs.put.words_json.Given as goal

abbrev pub invariant-loop-word : goal.invariant-loop-word
invariant-loop-word l = listed l.elements ≡ map string (map (λ w. w.now) (take l.word-index l.words))
