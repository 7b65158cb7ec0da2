use Rattle.std.proofs.Common.{◌≡◌, map, take}
use Rattle.json_text.specs.Shown.{listed}
use Rattle.call_json.specs.Renditions.{rendition_data}
use Rattle.call_json.proofs.renditions.each_rendition.Given as goal

abbrev pub invariant-loop-rendition : goal.invariant-loop-rendition
invariant-loop-rendition l = listed l.elements ≡ map rendition_data (take l.rendition-index l.renditions)
