use Rattle.std.proofs.Common.{◌≡◌, map, take}
use Rattle.json_text.specs.Shown.{listed}
use Rattle.object_json.specs.Pages.{child_data}
use Rattle.object_json.proofs.pages.each_child.Given as goal

abbrev pub invariant-loop-object : goal.invariant-loop-object
invariant-loop-object l = listed l.elements ≡ map child_data (take l.object-index l.objects)
