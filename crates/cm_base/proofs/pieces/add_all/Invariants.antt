use Rattle.std.proofs.Common.{◌≡◌, ◌++◌, take}
use Rattle.cm_base.specs.Whole.{whole}
use Rattle.cm_base.proofs.pieces.add_all.Given as goal

abbrev pub invariant-loop-piece : goal.invariant-loop-piece
invariant-loop-piece l = whole l.list.items ≡ whole l.initial.list.items ++ whole (take l.piece-index l.pieces)
