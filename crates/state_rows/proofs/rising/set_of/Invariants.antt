use Rattle.std.proofs.Common.{◌≡◌, ℕ, ◌==◌, is_some, take}
use Rattle.std.specs.List.{list_any}
use Rattle.core.specs.Ordering.{nat_cmp}
use Rattle.core.specs.FinMap.Entries.{find}
use Rattle.state_rows.proofs.rising.set_of.Given as goal

abbrev pub invariant-loop-number : goal.invariant-loop-number
invariant-loop-number l = (n : ℕ) → is_some (find nat_cmp n l.all) ≡ list_any (λ k. n == k.0) (take l.number-index l.numbers)
