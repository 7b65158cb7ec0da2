-- The bytes of a piece, wherever they are.
use Rattle.std.specs.Prelude.{ℕ, List}
use Rattle.std.specs.Arc.{arc_value}
use Rattle.cm_base.specs.declared.piece.Place.{Place}
use Rattle.cm_base.specs.declared.piece.Place.TheVariants.{Held, Kept}

abbrev pub placed : Place → List ℕ
placed (Held bytes) = (arc_value bytes).items
placed (Kept extent) = arc_value extent
