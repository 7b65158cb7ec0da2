use Rattle.std.proofs.Common.{◌≡◌, fold, take}
use Rattle.cmis_spec.specs.Removal.{among}
use Rattle.cm_removal.specs.Steps.{with_left}
use Rattle.cm_removal.proofs.series.with_lefts.Given as goal

abbrev pub invariant-loop-n : goal.invariant-loop-n
invariant-loop-n l = l.left ≡ fold (with_left (among l.gone)) l.initial.left (take l.n-index l.entries)
