-- What a block becomes by a change.
use Rattle.std.specs.Prelude.{List, [], ◌∷◌}
use Rattle.std.specs.Arc.{arc_value}
use Rattle.cm_map.specs.declared.pieces.Pieces.{Pieces}
use Rattle.cm_map.specs.declared.pieces.Pieces.TheVariants as pieces

-- the blocks in order
abbrev pub blocks_of : {B : Type 0} → Pieces B → List B
blocks_of pieces.Gone = []
blocks_of (pieces.One b) = arc_value b ∷ []
blocks_of (pieces.Two b c) = arc_value b ∷ arc_value c ∷ []
