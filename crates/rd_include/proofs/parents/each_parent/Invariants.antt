use Rattle.std.proofs.Common.{◌≡◌, map, take}
use Rattle.cm_map.specs.Parts.{pointee}
use Rattle.rd_include.specs.ShowParents.{included_parent}
use Rattle.rd_include.proofs.parents.each_parent.Given as goal

abbrev pub invariant-loop-folder : goal.invariant-loop-folder
invariant-loop-folder l = l.all ≡ map (included_parent l.state l.user l.q l.segment) (map pointee (take l.folder-index l.folders))
