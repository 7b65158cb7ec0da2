use Rattle.std.proofs.Common.{◌≡◌, ◌-◌, ◌++◌, ℕ, List, length}
use Rattle.outside.specs.Outside.{Gave}
use Rattle.http_wire.specs.Windows.{held}
use Rattle.http_grammar.specs.Limits.{head_limit}
use Rattle.http_wire.proofs.head_reader.read_head.Given as goal

abbrev pub invariant-more : goal.invariant-more
invariant-more g l =
    ((got : List ℕ) × (held l.window ≡ held l.fn.window ++ got) × Gave (g.S.Source.told l.fn.source) (g.S.Source.told l.source) got)
    × (g.S.Source.aside l.source ≡ g.S.Source.aside l.fn.source)

abbrev pub decreases-more : goal.decreases-more
decreases-more g l = head_limit - length (held l.window)
