use Rattle.std.proofs.Common.{◌≡◌, ◌-◌, ◌++◌, ℕ, List, length}
use Rattle.outside.specs.Outside.{Gave}
use Rattle.http_wire.specs.Windows.{held}
use Rattle.http_grammar.specs.Limits.{field_room}
use Rattle.http_wire.proofs.pieces.read_piece.Given as goal

abbrev pub invariant-more : goal.invariant-more
invariant-more g l =
    ((got : List ℕ) × (held l.window ≡ held l.fn.window ++ got) × Gave (g.S.Source.told l.fn.source) (g.S.Source.told l.source) got)
    × (g.S.Source.aside l.source ≡ g.S.Source.aside l.fn.source)
    × (length l.spans ≡ field_room)

abbrev pub decreases-more : goal.decreases-more
decreases-more g l = l.budget - length (held l.window)
