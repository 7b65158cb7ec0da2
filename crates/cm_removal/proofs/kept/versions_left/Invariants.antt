use Rattle.std.proofs.Common.{◌≡◌, filter, not, take}
use Rattle.cmis_spec.specs.Removal.{among}
use Rattle.cm_removal.proofs.kept.versions_left.Given as goal

abbrev pub invariant-loop-version : goal.invariant-loop-version
invariant-loop-version l = l.all ≡ filter (λ v. not (among l.gone v.object)) (take l.version-index l.versions)
