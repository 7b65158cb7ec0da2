use Rattle.std.proofs.Common.{◌≡◌, ◌≤◌, ◌-◌, ◌++◌, ℕ, List, length, take}
use Rattle.outside.specs.Outside.{Gave}
use Rattle.http_wire.proofs.body.read_exactly.Given as goal

abbrev pub invariant-more : goal.invariant-more
invariant-more g l =
    ((got : List ℕ) × (take l.filled l.body.items ≡ l.fn.body.items ++ got) × Gave (g.S.Source.told l.fn.source) (g.S.Source.told l.source) got)
    × (g.S.Source.aside l.source ≡ g.S.Source.aside l.fn.source)
    × (l.filled ≤ length l.body.items) × (length l.body.items ≤ l.goal)

abbrev pub decreases-more : goal.decreases-more
decreases-more g l = l.goal - l.filled
