use Rattle.std.proofs.Common.{◌≡◌, map, take}
use Rattle.bind_readings.proofs.filter.texts_of.Given as goal

abbrev pub invariant-loop-piece : goal.invariant-loop-piece
invariant-loop-piece l = l.all ≡ map (λ x. x.now) (take l.piece-index l.pieces)
