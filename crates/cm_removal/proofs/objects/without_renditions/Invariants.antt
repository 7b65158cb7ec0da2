use Rattle.std.proofs.Common.{◌≡◌, not, filter, take}
use Rattle.cmis_spec.specs.Removal.{among}
use Rattle.cm_removal.proofs.objects.without_renditions.Given as goal

abbrev pub invariant-loop-n : goal.invariant-loop-n
invariant-loop-n l = l.left ≡ record l.initial.left { renditions = filter (λ d. not (among (take l.n-index l.gone) d.of)) l.initial.left.renditions }
