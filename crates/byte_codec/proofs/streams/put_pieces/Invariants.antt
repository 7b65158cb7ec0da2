use Rattle.std.proofs.Common.{◌≡◌, ◌++◌, take}
use Rattle.cm_base.specs.Whole.{whole}
use Rattle.byte_codec.proofs.streams.put_pieces.Given as goal

abbrev pub invariant-loop-piece : goal.invariant-loop-piece
invariant-loop-piece l = l.out.items ≡ l.fn.out.items ++ whole (take l.piece-index l.list)
