use Rattle.std.proofs.Common.{◌≡◌, take}
use Rattle.cmis_spec.specs.Removal.{each_once}
use Rattle.cm_removal.proofs.gone.Gone.of.Given as goal

abbrev pub invariant-loop-n : goal.invariant-loop-n
invariant-loop-n l = l.all ≡ each_once (take l.n-index l.numbers)
