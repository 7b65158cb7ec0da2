use Rattle.std.proofs.Common.{◌≡◌, length}
use Rattle.journal_people.specs.Tests.{rise}
use Rattle.journal_people.proofs.groups.rise.Given as goal

abbrev pub invariant-loop-rest : goal.invariant-loop-rest
invariant-loop-rest l = rise l.groups ≡ rise l.rest

abbrev pub decreases-loop-rest : goal.decreases-loop-rest
decreases-loop-rest l = length l.rest
