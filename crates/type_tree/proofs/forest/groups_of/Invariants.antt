use Rattle.std.proofs.Common.{map, take}
use Rattle.std.specs.BTreeMap.{get_by_text}
use Rattle.cm_map.specs.Parts.{pointee}
use Rattle.type_tree.specs.Groups.{HasGroups}
use Rattle.type_tree.proofs.forest.groups_of.Given as goal

abbrev pub invariant-loop-def : goal.invariant-loop-def
invariant-loop-def l = HasGroups (get_by_text l.groups) (map pointee (take l.def-index l.types))
