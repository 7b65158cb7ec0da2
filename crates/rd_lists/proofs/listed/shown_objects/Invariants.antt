use Rattle.std.proofs.Common.{◌≡◌, map, take}
use Rattle.cm_map.specs.Parts.{pointee}
use Rattle.cm_see.specs.Shown.{shown_object}
use Rattle.rd_lists.proofs.listed.shown_objects.Given as goal

abbrev pub invariant-loop-x : goal.invariant-loop-x
invariant-loop-x l = l.all ≡ map (shown_object l.state l.user l.filter l.succinct) (map pointee (take l.x-index l.objects))
