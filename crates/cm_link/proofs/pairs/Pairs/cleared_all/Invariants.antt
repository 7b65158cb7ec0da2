use Rattle.std.proofs.Common.{◌≡◌, ℕ, ◌==◌, take, None, if◌then◌else◌}
use Rattle.std.specs.List.{list_any}
use Rattle.core.specs.Ordering.{nat_cmp}
use Rattle.core.specs.FinMap.Entries.{find}
use Rattle.cm_link.specs.Linked.{IsIndexed}
use Rattle.cm_link.proofs.pairs.Pairs.cleared_all.Given as goal

abbrev pub invariant-loop-place : goal.invariant-loop-place
invariant-loop-place l = record {
  indexed : IsIndexed l.pairs.entries l.pairs.by_object l.pairs.by_policy;
  found : (p : ℕ) → find nat_cmp p l.pairs.entries ≡ (if list_any (λ q. p == q) (take l.place-index l.places) then None else find nat_cmp p l.self.entries);
}
