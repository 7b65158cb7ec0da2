use Rattle.std.proofs.Common.{◌≡◌, map, take}
use Rattle.json_text.specs.Shown.{listed}
use Rattle.type_show.specs.Showing.{choice_data}
use Rattle.type_show.proofs.show.choices_json.Given as goal

abbrev pub invariant-loop-choice : goal.invariant-loop-choice
invariant-loop-choice l = listed l.elements ≡ map choice_data (take l.choice-index l.choices)
