use Rattle.std.proofs.Common.{◌≡◌, ℕ, map, is_some}
use Rattle.std.specs.List.{list_any}
use Rattle.core.specs.Ordering.{nat_cmp}
use Rattle.core.specs.FinMap.Entries.{find}
use Rattle.cm_map.specs.Parts.{pointee}
use Rattle.cm_state.specs.Looks.{standing_at, has_number}
use Rattle.cm_state.proofs.standing.numbers_among.Given as goal

abbrev pub invariant-loop-entry : goal.invariant-loop-entry
invariant-loop-entry l = (n : ℕ) → is_some (find nat_cmp n l.all) ≡ list_any (λ e. has_number n (standing_at l.parts e.1)) (map pointee l.yielded)
