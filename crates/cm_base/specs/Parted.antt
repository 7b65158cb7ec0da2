-- The bytes of one piece, or of some in their order.
use Rattle.std.specs.Prelude.{ℕ, List}
use Rattle.cm_base.specs.declared.pieces.Parts.{Parts}
use Rattle.cm_base.specs.declared.pieces.Parts.TheVariants.{One, Several}
use Rattle.cm_base.specs.Whole.{whole}

abbrev pub parted : Parts → List ℕ
parted (One piece) = piece
parted (Several list) = whole list.items
