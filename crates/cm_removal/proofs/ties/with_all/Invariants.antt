use Rattle.std.proofs.Common.{◌≡◌, take}
use Rattle.std.specs.List.{flat_map}
use Rattle.cmis_spec.specs.Removal.{going_with}
use Rattle.cm_removal.proofs.ties.with_all.Given as goal

abbrev pub invariant-loop-n : goal.invariant-loop-n
invariant-loop-n l = l.all ≡ flat_map (going_with l.state) (take l.n-index l.numbers)
