use Rattle.std.proofs.Common.{◌≡◌, map, take}
use Rattle.json_text.specs.Shown.{listed}
use Rattle.object_json.specs.Access.{ace_data}
use Rattle.object_json.proofs.access.each_ace.Given as goal

abbrev pub invariant-loop-ace : goal.invariant-loop-ace
invariant-loop-ace l = listed l.elements ≡ map ace_data (take l.ace-index l.aces)
