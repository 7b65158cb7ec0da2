use Rattle.std.proofs.Common.{◌≡◌, ◌≤◌, take}
use Rattle.cm_base.specs.Whole.{whole}
use Rattle.outside.specs.Outside.{Took}
use Rattle.http_reply.proofs.pieces.send_pieces.Given as goal

abbrev pub invariant-loop-piece : goal.invariant-loop-piece
invariant-loop-piece g l =
    Took (g.K.Sink.told l.initial.sink) (g.K.Sink.told l.sink) (whole (take l.piece-index l.pieces))
    × (g.K.Sink.aside l.sink ≡ g.K.Sink.aside l.initial.sink)
