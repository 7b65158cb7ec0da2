use Rattle.std.proofs.Common.{◌≡◌, length}
use Rattle.cm_base.specs.UserLists.{all_differ}
use Rattle.journal_people.proofs.names.all_differ.Given as goal

abbrev pub invariant-loop-rest : goal.invariant-loop-rest
invariant-loop-rest l = all_differ l.names ≡ all_differ l.rest

abbrev pub decreases-loop-rest : goal.decreases-loop-rest
decreases-loop-rest l = length l.rest
