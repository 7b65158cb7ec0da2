use Rattle.std.proofs.Common.{◌≡◌, map, take}
use Rattle.cm_map.specs.Parts.{pointee}
use Rattle.rd_include.specs.ShowChildren.{included_child}
use Rattle.rd_include.proofs.children.included_members.Given as goal

abbrev pub invariant-loop-x : goal.invariant-loop-x
invariant-loop-x l = l.all ≡ map (included_child l.state l.user l.q) (map pointee (take l.x-index l.objects))
