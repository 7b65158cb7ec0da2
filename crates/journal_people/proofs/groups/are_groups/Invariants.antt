use Rattle.std.proofs.Common.{◌≡◌, length}
use Rattle.std.specs.List.{list_all}
use Rattle.journal_people.specs.Tests.{may_be_group}
use Rattle.journal_people.proofs.groups.are_groups.Given as goal

abbrev pub invariant-loop-rest : goal.invariant-loop-rest
invariant-loop-rest l = list_all (may_be_group l.users) l.groups ≡ list_all (may_be_group l.users) l.rest

abbrev pub decreases-loop-rest : goal.decreases-loop-rest
decreases-loop-rest l = length l.rest
