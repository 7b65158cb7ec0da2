use Rattle.std.proofs.Common.{◌≡◌, map, take}
use Rattle.json_text.specs.Shown.{listed}
use Rattle.include_json.specs.Included.{included_data}
use Rattle.include_json.proofs.pages.each_included.Given as goal

abbrev pub invariant-loop-object : goal.invariant-loop-object
invariant-loop-object l = listed l.elements ≡ map included_data (take l.object-index l.objects)
