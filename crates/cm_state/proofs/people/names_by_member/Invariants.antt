use Rattle.std.proofs.Common.{◌≡◌, ℕ, List, take}
use Rattle.cm_state.specs.Members.{names_at, names_of}
use Rattle.cm_state.proofs.people.names_by_member.Given as goal

abbrev pub invariant-loop-group : goal.invariant-loop-group
invariant-loop-group l = (u : List ℕ) → names_at l.by_member u ≡ names_of (take l.group-index l.groups) u
