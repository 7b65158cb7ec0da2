use Rattle.std.proofs.Common.{◌≡◌, length}
use Rattle.cmis_spec.specs.Well.{is_user}
use Rattle.journal_people.proofs.names.is_user.Given as goal

abbrev pub invariant-loop-rest : goal.invariant-loop-rest
invariant-loop-rest l = is_user l.users l.name ≡ is_user l.rest l.name

abbrev pub decreases-loop-rest : goal.decreases-loop-rest
decreases-loop-rest l = length l.rest
