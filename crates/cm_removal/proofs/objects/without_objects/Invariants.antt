use Rattle.std.proofs.Common.{◌≡◌, not, filter, take}
use Rattle.cmis_spec.specs.Removal.{among}
use Rattle.cm_removal.proofs.objects.without_objects.Given as goal

abbrev pub invariant-loop-n : goal.invariant-loop-n
invariant-loop-n l = l.left ≡ record l.initial.left { objects = filter (λ x. not (among (take l.n-index l.gone) x.id)) l.initial.left.objects }
