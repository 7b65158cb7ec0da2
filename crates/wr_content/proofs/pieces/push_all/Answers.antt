use Rattle.std.proofs.Common.{◌∙◌, ap, ◌++◌, arith}
use Rattle.cm_base.proofs.Wholes.{whole-more}
use Rattle.wr_content.proofs.pieces.push_all.Goals as goal

pub loop-piece-preserved : goal.loop-piece-preserved
loop-piece-preserved c =
    c.in_ok-held.ensures c.if-not-held.false ∙ ap (λ p. c.loop-piece.all.items ++ p) c.piece-item.is
    ∙ whole-more c.loop-piece.all.items c.args.all.now.items c.args.pieces.now c.loop-piece.piece-index c.piece-item.result (omega (arith, c.loop-piece-test.true)) c.loop-piece.invariant
