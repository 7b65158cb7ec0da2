use Rattle.std.proofs.Common.{◌∙◌, ap, ◌++◌, arith}
use Rattle.byte_codec.proofs.Wholes.{whole-more}
use Rattle.byte_codec.proofs.streams.put_pieces.Goals as goal

pub loop-piece-preserved : goal.loop-piece-preserved
loop-piece-preserved c =
    c.in_ok-put_piece.ensures ∙ ap (λ p. c.loop-piece.out.items ++ p) c.piece-item.is
    ∙ whole-more c.loop-piece.out.items c.args.out.now.items c.args.list.now c.loop-piece.piece-index c.piece-item.result (omega (arith, c.loop-piece-test.true)) c.loop-piece.invariant
