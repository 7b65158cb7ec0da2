use Rattle.std.proofs.Common.{◌≡◌, map, take}
use Rattle.json_text.specs.Shown.{listed}
use Rattle.type_show.specs.Showing.{type_data}
use Rattle.type_replies.proofs.types.each_type.Given as goal

abbrev pub invariant-loop-def : goal.invariant-loop-def
invariant-loop-def l = listed l.elements ≡ map (type_data l.property_definitions) (take l.def-index l.types)
