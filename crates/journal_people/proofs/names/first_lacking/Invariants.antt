use Rattle.std.proofs.Common.{◌≡◌, length}
use Rattle.std.specs.Prelude.{find, not}
use Rattle.cmis_spec.specs.Well.{is_user}
use Rattle.journal_people.proofs.names.first_lacking.Given as goal

abbrev pub invariant-loop-rest : goal.invariant-loop-rest
invariant-loop-rest l = find (λ name. not (is_user l.users name)) l.names ≡ find (λ name. not (is_user l.users name)) l.rest

abbrev pub decreases-loop-rest : goal.decreases-loop-rest
decreases-loop-rest l = length l.rest
