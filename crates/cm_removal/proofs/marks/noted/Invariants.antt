use Rattle.std.proofs.Common.{◌≡◌, ◌++◌, map, take}
use Rattle.cmis_spec.specs.Removal.{deletion}
use Rattle.cm_removal.proofs.marks.noted.Given as goal

abbrev pub invariant-loop-n : goal.invariant-loop-n
invariant-loop-n l = l.told ≡ record l.initial.told { log = l.initial.told.log ++ map (deletion l.state l.moment) (take l.n-index l.gone) }
