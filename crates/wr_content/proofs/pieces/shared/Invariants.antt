use Rattle.std.proofs.Common.{◌≡◌, take}
use Rattle.cm_base.specs.Whole.{whole}
use Rattle.wr_content.proofs.pieces.shared.Given as goal

abbrev pub invariant-loop-piece : goal.invariant-loop-piece
invariant-loop-piece l = l.all ≡ whole (take l.piece-index l.pieces)
