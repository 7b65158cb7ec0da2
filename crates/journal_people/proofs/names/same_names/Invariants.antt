use Rattle.std.proofs.Common.{◌≡◌, length}
use Rattle.journal_people.specs.Meetings.{same_names}
use Rattle.journal_people.proofs.names.same_names.Given as goal

abbrev pub invariant-loop-left : goal.invariant-loop-left
invariant-loop-left l = same_names l.names l.others ≡ same_names l.left l.right

abbrev pub decreases-loop-left : goal.decreases-loop-left
decreases-loop-left l = length l.left
