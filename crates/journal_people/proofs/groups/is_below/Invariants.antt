use Rattle.std.proofs.Common.{◌≡◌, length}
use Rattle.std.specs.List.{list_all}
use Rattle.core.specs.Ordering.{nat_cmp, is_lt}
use Rattle.core.specs.Cmp.Lexicographic.{slice_cmp}
use Rattle.journal_people.proofs.groups.is_below.Given as goal

abbrev pub invariant-loop-rest : goal.invariant-loop-rest
invariant-loop-rest l = list_all (λ h. is_lt (slice_cmp nat_cmp l.name h.name)) l.groups ≡ list_all (λ h. is_lt (slice_cmp nat_cmp l.name h.name)) l.rest

abbrev pub decreases-loop-rest : goal.decreases-loop-rest
decreases-loop-rest l = length l.rest
