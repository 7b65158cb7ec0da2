use Rattle.std.proofs.Common.{◌≡◌, map, take}
use Rattle.cmis_spec.specs.Access.{reads}
use Rattle.cm_removal.proofs.marks.marks_of.Given as goal

abbrev pub invariant-loop-user : goal.invariant-loop-user
invariant-loop-user l = l.marks ≡ map (λ u. reads l.state u l.x) (take l.user-index l.users)
