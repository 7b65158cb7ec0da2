use Rattle.std.proofs.Common.{◌∙◌}
use Rattle.http_reply.proofs.Extents.{sent_piece, lost_piece}
use Rattle.http_reply.proofs.pieces.send_pieces.Goals as goal
use Rattle.std.proofs.Common.{arith}

pub returns-in-Err-clause-front : goal.returns-in-Err-clause-front
returns-in-Err-clause-front g c =
    lost_piece _ _ _ c.args.pieces.now c.loop-piece.piece-index c.piece-item.result (omega (arith, c.loop-piece-test.true)) c.piece-item.is c.loop-piece.invariant.0 c.in-Err.ensures.front

pub loop-piece-preserved : goal.loop-piece-preserved
loop-piece-preserved g c = (
  sent_piece _ _ _ c.args.pieces.now c.loop-piece.piece-index c.piece-item.result (omega (arith, c.loop-piece-test.true)) c.piece-item.is c.loop-piece.invariant.0 c.in-Ok.ensures.ok,
  c.in-Ok.ensures.aside ∙ c.loop-piece.invariant.1,
)
