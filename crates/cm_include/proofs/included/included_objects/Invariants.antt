use Rattle.std.proofs.Common.{◌≡◌, map, take}
use Rattle.cm_map.specs.Parts.{pointee}
use Rattle.cm_include.specs.Included.{included_in}
use Rattle.cm_include.proofs.included.included_objects.Given as goal

abbrev pub invariant-loop-x : goal.invariant-loop-x
invariant-loop-x l = l.all ≡ map (included_in l.view) (map pointee (take l.x-index l.objects))
