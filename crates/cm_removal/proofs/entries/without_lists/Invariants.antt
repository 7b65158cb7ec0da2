use Rattle.std.proofs.Common.{◌≡◌, not, filter, take}
use Rattle.cmis_spec.specs.Removal.{among}
use Rattle.cm_removal.proofs.entries.without_lists.Given as goal

abbrev pub invariant-loop-n : goal.invariant-loop-n
invariant-loop-n l = l.left ≡ record l.initial.left { access = filter (λ k. not (among (take l.n-index l.leaving) k.at)) l.initial.left.access }
